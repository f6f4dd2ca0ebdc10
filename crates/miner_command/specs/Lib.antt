pub mod Files
pub mod Held
pub mod Miner
pub mod Opened
pub mod Playing
pub mod Views
