pub mod Computed
pub mod Refusals
pub mod Seasons
pub mod Kept
pub mod Filled
pub mod Results
