pub mod Rounds
pub mod Answers
pub mod Demands
pub mod Steps
