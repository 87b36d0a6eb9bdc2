mod Alike
mod Windows
pub mod counts
pub mod values
pub mod lists
pub mod serial
pub mod flight
pub mod configured
pub mod roles
