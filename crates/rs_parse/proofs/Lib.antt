pub mod Items
pub mod Adds
pub mod Reached
pub mod Blocks
