pub mod Forms
pub mod FormLaws
pub mod Fits
pub mod Readings
pub mod Fronts
pub mod Narrow
