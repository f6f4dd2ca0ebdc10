pub mod Untold
pub mod Within
