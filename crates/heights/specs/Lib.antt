pub mod Height
pub mod Heights
pub mod Steps
pub mod Demands
