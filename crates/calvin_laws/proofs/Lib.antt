pub mod order
pub mod counts
pub mod serial
pub mod node
pub mod Configured
pub mod NodeLaws
