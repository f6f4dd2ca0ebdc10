pub mod Suiting
pub mod Supplies
pub mod OwnGates
pub mod Laws
pub mod Shares
pub mod Plans
pub mod Stores
pub mod Nodes
