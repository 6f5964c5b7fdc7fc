pub mod Fronts
pub mod Instrs
pub mod Sought
pub mod Readers
