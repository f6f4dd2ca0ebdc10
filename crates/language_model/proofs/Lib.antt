pub mod Walk
pub mod Loops
pub mod Onward
pub mod Kept
pub mod Steady
pub mod Budgets
pub mod Enough
pub mod TapesDecide
