pub mod Examples
pub mod Repeats
pub mod Main
