pub mod Named
pub mod Plans
pub mod Saved
pub mod Fronts
pub mod Starts
pub mod Walks
pub mod Loads
