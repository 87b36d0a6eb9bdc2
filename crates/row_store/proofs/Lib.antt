pub mod Callers
mod InOrder
mod Loading
pub mod Tables
