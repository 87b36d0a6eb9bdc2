pub mod Calls
pub mod Executor
pub mod Options
pub mod Words
