pub mod Carry
pub mod Steps
pub mod Demands
