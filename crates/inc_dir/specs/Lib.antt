pub mod Promises
pub mod Replays
pub mod Memories
pub mod Kept
