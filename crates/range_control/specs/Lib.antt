pub mod Ends
pub mod Seen
pub mod Accesses
pub mod Tables
pub mod Changes
pub mod Standing
