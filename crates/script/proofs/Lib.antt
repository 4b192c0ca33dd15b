pub mod Replies
pub mod Sample
pub mod Limit
