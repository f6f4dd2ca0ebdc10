pub mod Built
pub mod Views
pub mod Parts
pub mod inner
