-- The homes of transactions, and the rows that lie at a partition.
pub mod Homes
pub mod Loads
