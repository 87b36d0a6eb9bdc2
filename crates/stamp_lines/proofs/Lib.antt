pub mod Steps
pub mod Puts
pub mod Asking
pub mod Ending
pub mod Fronts
pub mod Waking
pub mod Calls
