pub mod BitFields
pub mod Fields
pub mod Tails
