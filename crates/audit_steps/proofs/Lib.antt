pub mod GotLines
pub mod InputLines
pub mod LastLines
mod Links
pub mod Places
