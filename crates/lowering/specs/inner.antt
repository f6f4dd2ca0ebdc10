pub mod Leaves
pub mod Naming
pub mod Pieces
pub mod Views
