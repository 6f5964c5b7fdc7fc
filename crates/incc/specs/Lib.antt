pub mod Endings
pub mod Standard
