pub mod Alike
pub mod Driven
pub mod Steps
pub mod Twins
