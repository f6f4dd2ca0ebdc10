pub mod Shares
pub mod Lines
pub mod Reading
pub mod Reads
pub mod Texts
pub mod Vectors
pub mod inner
