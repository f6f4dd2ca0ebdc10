pub mod Answers
pub mod Cursors
pub mod Nets
pub mod Scripts
