pub mod Shown
pub mod Passing
