pub mod Numbers
pub mod Furthest
pub mod Merged
pub mod Complete
pub mod Drawn
