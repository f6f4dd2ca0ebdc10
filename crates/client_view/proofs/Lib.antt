pub mod Lists
pub mod Maps
pub mod Simulated
pub mod Twins
