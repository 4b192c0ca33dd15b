pub mod Computed
pub mod Numbers
pub mod Lists
pub mod Groups
pub mod Steps
