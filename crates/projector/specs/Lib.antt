pub mod Projector
pub mod Steps
pub mod Demands
