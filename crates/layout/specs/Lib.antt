pub mod Layout
pub mod Claims
