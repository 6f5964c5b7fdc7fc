pub mod Readings
pub mod Names
pub mod Steps
pub mod Plans
