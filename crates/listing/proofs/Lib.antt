pub mod Judging
pub mod Cells
pub mod Marking
pub mod Tables
