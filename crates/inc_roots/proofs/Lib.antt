pub mod Members
pub mod Sorted
pub mod Closed
pub mod Asking
pub mod Graphs
pub mod Caches
pub mod Fresh
