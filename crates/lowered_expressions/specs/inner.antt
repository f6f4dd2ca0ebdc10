pub mod Notes
pub mod Operands
