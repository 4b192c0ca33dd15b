pub mod Basis
pub mod Levels
