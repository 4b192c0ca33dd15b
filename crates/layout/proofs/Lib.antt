pub mod Computed
pub mod Found
pub mod Results
