pub mod Nudge
pub mod Demands
