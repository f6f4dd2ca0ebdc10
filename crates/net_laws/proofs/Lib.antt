pub mod Waiting
pub mod Nets
pub mod Orders
pub mod OneNet
mod Arriving
pub mod LinkMessages
pub mod MinersTold
