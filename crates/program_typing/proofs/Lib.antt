pub mod TreesOfValues
pub mod TreesOfStatements
pub mod TreesOfFunctions
pub mod CallsOfTyped
mod ReadingOrder
pub mod ReachedFunctions
pub mod TreesOfPrograms
