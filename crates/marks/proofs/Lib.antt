pub mod Computed
pub mod Marks
