pub mod Tables
pub mod Listing
pub mod Skips
pub mod Numbers
pub mod Results
pub mod Renaming
