pub mod Format
pub mod Reads
pub mod Seeds
pub mod Tapes
pub mod Vectors
