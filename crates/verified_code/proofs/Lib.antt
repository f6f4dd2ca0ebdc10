pub mod Faults
pub mod Sound
pub mod Signs
pub mod Places
pub mod Bytes
