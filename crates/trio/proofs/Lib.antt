mod Calls
mod Waits
mod Judging
mod Launched
mod Places
mod Passing
mod Stores
