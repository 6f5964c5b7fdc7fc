pub mod Built
pub mod Diagnosed
pub mod Known
pub mod Limits
pub mod Reading
pub mod State
