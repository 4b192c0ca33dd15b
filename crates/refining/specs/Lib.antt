pub mod Refining
pub mod Steps
pub mod Seasons
pub mod Demands
