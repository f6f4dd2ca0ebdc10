pub mod Ends
pub mod Known
pub mod Given
pub mod ShareFiles
