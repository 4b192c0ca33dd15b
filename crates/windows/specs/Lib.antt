pub mod Windows
pub mod Level
pub mod Near
