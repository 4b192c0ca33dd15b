pub mod AfterP7
pub mod Computed
pub mod Bridge
pub mod Label
pub mod Area
pub mod Fresh
pub mod HAdmissible
