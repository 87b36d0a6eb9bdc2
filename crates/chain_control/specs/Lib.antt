pub mod Requests
pub mod Links
pub mod Chains
pub mod Tables
pub mod Changes
pub mod Kept
pub mod Standing
