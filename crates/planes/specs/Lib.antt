pub mod Bits
pub mod Planes
pub mod Meets
pub mod Runs
pub mod Demands
