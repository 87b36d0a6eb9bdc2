-- Membership, tests on lists, partitions of lists of accesses.
pub mod Parts
pub mod ListTests
pub mod RowFolds
