pub mod Judgement
pub mod Answer
pub mod Refusals
