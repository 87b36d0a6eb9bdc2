pub mod Sequencers
pub mod Trials
