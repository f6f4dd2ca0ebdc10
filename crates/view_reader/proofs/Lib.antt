mod Collected
mod Texts
pub mod LinesRead
pub mod OpenedRead
mod PublishedRead
mod OpenedLaws
mod Limits
mod EndWords
mod ViewRead
mod WrongLine
