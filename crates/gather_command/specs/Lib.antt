pub mod Gather
pub mod Held
pub mod Gathering
pub mod Owners
pub mod GatheringVectors
