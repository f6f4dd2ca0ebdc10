pub mod Reads
pub mod Opened
pub mod Published
pub mod FirstWrong
pub mod Ends
pub mod Places
pub mod Vectors
