pub mod Computed
pub mod Sums
pub mod Results
