pub mod Played
pub mod Reports
pub mod Workloads
pub mod TwoEpochs
pub mod TpccLoads
