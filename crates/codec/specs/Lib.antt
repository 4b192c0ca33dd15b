pub mod Numbers
pub mod Fitting
pub mod Steps
