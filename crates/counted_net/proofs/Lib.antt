pub mod Counts
pub mod Made
pub mod Marks
pub mod Settling
pub mod Shapes
pub mod Together
pub mod Walks
