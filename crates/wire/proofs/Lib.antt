pub mod Fronts
pub mod FrameLaws
pub mod HelloLaws
