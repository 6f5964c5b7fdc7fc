pub mod Graphs
pub mod Forms
pub mod Order
pub mod Kept
