pub mod Keys
pub mod Offering
pub mod Promised
pub mod Closing
pub mod Keeps
pub mod Versions
pub mod Counting
pub mod Resuming
