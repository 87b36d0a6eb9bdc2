pub mod Trials
pub mod Logs
