pub mod Views
pub mod TapeMaps
pub mod Laws
