pub mod Agree
pub mod Assembled
pub mod Texts
pub mod Whole
pub mod Roots
