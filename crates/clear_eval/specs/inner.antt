pub mod Beginning
pub mod Calling
pub mod Elements
pub mod Flows
pub mod Measures
pub mod Parts
pub mod Standing
pub mod Views
