mod Kept
mod Links
mod Walking
pub mod InputPieces
pub mod Zeros
pub mod Suiting
pub mod Pieces
pub mod Making
pub mod Answering
pub mod Runs
pub mod RowPieces
pub mod Taking
pub mod Acceptance
pub mod Turns
pub mod WholeGates
pub mod OneGate
pub mod GateByGate
pub mod BlockMails
pub mod Receiving
pub mod GateAdded
pub mod RowMails
