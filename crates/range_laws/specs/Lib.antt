pub mod Bounded
pub mod Sizes
