pub mod Seen
pub mod Text
pub mod Vectors
