pub mod Ends
pub mod Messages
pub mod Places
pub mod Shares
pub mod Vectors
