pub mod Values
pub mod Local
pub mod Claims
pub mod Room
