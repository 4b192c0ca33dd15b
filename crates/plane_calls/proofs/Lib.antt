pub mod Rooms
pub mod Changes
pub mod Opened
pub mod Counted
pub mod Copies
