pub mod Room
pub mod Laws
pub mod Fronts
