pub mod Trials
pub mod Works
