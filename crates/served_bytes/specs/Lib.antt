pub mod Front
pub mod Served
pub mod Reading
pub mod Laws
