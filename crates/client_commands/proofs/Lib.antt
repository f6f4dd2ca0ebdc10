pub mod MapPlanned
pub mod Handed
pub mod Differences
pub mod TwinPlanned
pub mod SimulatePlanned
