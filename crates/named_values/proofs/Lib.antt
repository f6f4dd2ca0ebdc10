pub mod Operands
pub mod Effects
pub mod Plans
pub mod Rows
pub mod Steps
pub mod Besides
pub mod BesidesRows
pub mod BesidesSteps
