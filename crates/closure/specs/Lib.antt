pub mod Walk
pub mod Ready
pub mod Table
