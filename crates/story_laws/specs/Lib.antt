pub mod Stories
pub mod WholeTapes
pub mod Alike
pub mod Drawn
pub mod DrawnLaws
