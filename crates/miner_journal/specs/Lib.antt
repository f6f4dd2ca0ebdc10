pub mod Format
pub mod Calls
pub mod Heads
pub mod Undone
pub mod Reads
pub mod Begins
pub mod Course
pub mod Replay
