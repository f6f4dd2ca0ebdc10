mod Arrays
mod Forms
mod Tokens
mod Spelled
pub mod Runnable
