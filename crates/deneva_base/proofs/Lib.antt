pub mod KeyOrder
pub mod RowMaps
pub mod SortedRows
pub mod Entries
pub mod Membership
pub mod PutRows
