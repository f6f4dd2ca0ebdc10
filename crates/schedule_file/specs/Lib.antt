pub mod Answers
pub mod FirstWrong
pub mod Reading
pub mod Text
pub mod Vectors
