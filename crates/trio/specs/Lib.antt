pub mod Words
pub mod Children
pub mod Launches
pub mod Joining
pub mod Answers
pub mod Runs
pub mod Vectors
pub mod inner
