pub mod Rows
pub mod Nested
pub mod Reactivable
pub mod Completed
