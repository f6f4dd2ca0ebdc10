pub mod Given
pub mod LeastFault
pub mod Lent
pub mod Table
pub mod Walks
pub mod WorkList
