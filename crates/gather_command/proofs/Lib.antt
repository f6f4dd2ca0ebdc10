pub mod Planned
pub mod Refusals
pub mod SharesRead
pub mod Steps
pub mod Distinct
pub mod OneDealing
