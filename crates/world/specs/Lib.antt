pub mod Chunks
pub mod Turns
pub mod Worlds
pub mod Gathered
pub mod Matches
