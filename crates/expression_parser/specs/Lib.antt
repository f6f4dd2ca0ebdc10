pub mod Phrases
pub mod Grammar
pub mod Follow
pub mod Steps
pub mod Given
pub mod Answer
