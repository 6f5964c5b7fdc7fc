pub mod Fronts
pub mod Forms
pub mod Found
pub mod PlaceSteps
pub mod Measured
pub mod Texts
pub mod Total
pub mod Ranges
