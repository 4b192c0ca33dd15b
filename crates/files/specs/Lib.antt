pub mod File
pub mod Answers
pub mod Bounds
pub mod Demands
pub mod Steps
