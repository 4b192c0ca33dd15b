pub mod TwoScale
pub mod Passing
pub mod Claims
