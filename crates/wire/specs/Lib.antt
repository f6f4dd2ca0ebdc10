pub mod Frames
pub mod Hellos
pub mod Digests
pub mod Vectors
