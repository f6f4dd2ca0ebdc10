pub mod Answers
pub mod Coming
pub mod Miners
pub mod Net
pub mod Orders
pub mod Parts
pub mod Streams
