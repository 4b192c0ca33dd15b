pub mod Computed
pub mod Outcomes
pub mod Making
pub mod Finishing
pub mod Whole
pub mod Shape
pub mod Seasons
pub mod Results
