pub mod SupportLaws
