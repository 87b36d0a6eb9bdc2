pub mod Distinct
pub mod DistinctLists
pub mod FitPrograms
pub mod Found
pub mod Ids
pub mod LoadedRows
pub mod Loads
pub mod Members
pub mod Onces
pub mod Participants
pub mod ReadRows
pub mod Settled
pub mod TpccLaws
pub mod ValidPrograms
mod Within
pub mod WorkloadLaws
