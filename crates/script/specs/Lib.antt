pub mod Bounds
pub mod Session
pub mod Steps
