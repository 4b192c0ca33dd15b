pub mod Level
pub mod Cover
