pub mod Computed
pub mod Examples
pub mod Points
pub mod Regions
pub mod Published
pub mod Presence
