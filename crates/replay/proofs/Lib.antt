pub mod SameRows
pub mod Outcomes
