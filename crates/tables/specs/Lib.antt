pub mod Cells
pub mod Entries
