pub mod Elements
pub mod End
pub mod Event
pub mod Fault
pub mod Name
pub mod Vectors
pub mod Lists
