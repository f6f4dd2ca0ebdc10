pub mod Audit
pub mod Found
pub mod Laws
pub mod OneRun
pub mod Places
pub mod Steps
pub mod Vectors
