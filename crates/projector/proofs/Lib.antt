pub mod Computed
pub mod Places
pub mod Words
pub mod Refusals
pub mod Results
