pub mod Told
pub mod Nodes
pub mod Views
pub mod Idle
pub mod Made
