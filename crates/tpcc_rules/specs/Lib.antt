pub mod Columns
pub mod Effects
pub mod Items
pub mod Names
pub mod NewOrders
pub mod Payments
pub mod ReadRows
pub mod Tables
