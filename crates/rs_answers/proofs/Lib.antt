pub mod Sums
pub mod Fronts
pub mod Seeks
