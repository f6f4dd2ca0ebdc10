pub mod Numbers
pub mod Building
pub mod Nodes
pub mod Cuts
pub mod Arguments
pub mod Noted
