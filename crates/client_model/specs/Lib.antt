pub mod ClientRows
pub mod ClientMaps
pub mod Given
pub mod Laws
pub mod Twins
pub mod Told
pub mod Vectors
