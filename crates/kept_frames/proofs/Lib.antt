pub mod Replayed
pub mod Repeated
