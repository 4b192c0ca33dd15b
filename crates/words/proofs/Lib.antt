pub mod Loops
pub mod Order
pub mod First
