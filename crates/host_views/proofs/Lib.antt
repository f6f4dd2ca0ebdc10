mod Bytes
pub mod Hosts
