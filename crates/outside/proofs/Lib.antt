pub mod Given
pub mod Known
pub mod MapFiles
pub mod Peers
pub mod Puts
pub mod Moves
pub mod Held
