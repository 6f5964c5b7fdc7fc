pub mod Builds
pub mod Index
pub mod Marking
pub mod Finish
pub mod BuildLaws
