pub mod Drafts
pub mod Answers
pub mod Seasons
pub mod Demands
pub mod Meets
