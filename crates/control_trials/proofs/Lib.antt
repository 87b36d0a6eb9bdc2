pub mod TwoRows
pub mod Logs
