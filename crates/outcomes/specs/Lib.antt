pub mod Calls
pub mod Meets
pub mod Runs
pub mod Demands
pub mod Steps
pub mod Printed
pub mod Answers
