pub mod Mesh
pub mod HAdmissible
pub mod Answers
