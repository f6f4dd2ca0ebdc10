pub mod Ask
pub mod Builds
pub mod Numbers
pub mod Shapes
pub mod Vectors
pub mod Views
pub mod inner
