pub mod Texts
pub mod Fields
pub mod Output
pub mod ReadBack
pub mod Examples
