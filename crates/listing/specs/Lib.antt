pub mod Judged
pub mod Cells
