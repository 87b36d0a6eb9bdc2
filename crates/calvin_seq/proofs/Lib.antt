pub mod Places
pub mod Eights
pub mod Counts
pub mod Parts
pub mod Trying
