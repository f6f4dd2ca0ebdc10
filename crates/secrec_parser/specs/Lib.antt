pub mod Sugar
pub mod Grammar
pub mod FirstFault
pub mod Answer
pub mod inner
