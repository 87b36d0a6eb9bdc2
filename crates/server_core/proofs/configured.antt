-- The setting of every configuration and valid workload meets what the laws of runs ask.
pub mod Workloads
pub mod ValidSettings
pub mod Limiteds
pub mod Families
pub mod CalvinSettings
