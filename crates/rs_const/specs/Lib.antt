pub mod Constants
pub mod State
