pub mod Numbers
pub mod Reading
pub mod Tags
pub mod Tests
