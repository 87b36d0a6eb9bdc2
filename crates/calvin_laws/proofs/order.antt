-- The global order, the numbers of its transactions, and what a node has taken of it.
pub mod Orders
pub mod OrderNumbers
pub mod Nodes
pub mod TakenBatches
