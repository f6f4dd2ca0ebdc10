pub mod Declarations
pub mod Index
pub mod Named
pub mod Views
