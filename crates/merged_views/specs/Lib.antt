pub mod Brought
pub mod Unreached
