pub mod Joins
pub mod Idles
pub mod Ends
pub mod Answered
pub mod Idling
pub mod Shapes
