pub mod FirstFaults
pub mod TypeFaults
pub mod Judgements
