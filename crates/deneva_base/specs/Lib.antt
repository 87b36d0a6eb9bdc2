pub mod Lists
pub mod Keys
pub mod Modes
pub mod Partitions
pub mod Rows
pub mod Rising
pub mod ProtocolWords
