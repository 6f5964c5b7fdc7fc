pub mod Blocks
pub mod Building
pub mod Whole
