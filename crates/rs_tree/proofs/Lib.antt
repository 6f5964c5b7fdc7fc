pub mod Rows
pub mod Tables
pub mod Values
pub mod Both
pub mod Codes
pub mod Weights
pub mod Mirror
pub mod Orders
