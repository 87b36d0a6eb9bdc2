pub mod Loads
pub mod Callers
pub mod Calling
pub mod Handling
