pub mod Messages
pub mod Frames
