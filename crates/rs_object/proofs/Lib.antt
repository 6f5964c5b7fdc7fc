pub mod Relocations
pub mod Fronts
