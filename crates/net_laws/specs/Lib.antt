pub mod Honest
pub mod HonestLaws
pub mod OneNet
pub mod LinkMessages
pub mod MinersTold
