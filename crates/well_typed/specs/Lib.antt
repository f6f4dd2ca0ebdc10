pub mod Kinds
pub mod Expressions
pub mod Statements
pub mod Programs
pub mod Sources
pub mod Laws
pub mod Vectors
