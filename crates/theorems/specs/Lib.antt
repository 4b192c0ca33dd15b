pub mod Main
