pub mod FramedScripts
pub mod FramedMessages
