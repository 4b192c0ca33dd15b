pub mod Sets
pub mod Closure
pub mod Undo
