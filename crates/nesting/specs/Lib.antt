pub mod Table
pub mod Nested
pub mod Reactivable
pub mod Completed
