mod Emitted
pub mod Exact
pub mod Tellings
pub mod Values
mod Wholes
