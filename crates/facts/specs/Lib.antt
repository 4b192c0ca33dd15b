pub mod Bounded
pub mod Numbers
pub mod Least
pub mod Ranges
pub mod Mapped
pub mod Writing
