pub mod Reached
pub mod Rooted
pub mod Asked
pub mod Fresh
