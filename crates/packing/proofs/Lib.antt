pub mod Four
pub mod Loops
pub mod Packed
