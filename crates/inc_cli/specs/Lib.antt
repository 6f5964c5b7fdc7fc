pub mod Statuses
pub mod Run
pub mod Visits
pub mod Parts
