-- What a node keeps of its messages: its active transactions, its rows, and what a message makes ready.
pub mod ActiveLists
pub mod Steps
pub mod StoredRows
pub mod OwnRows
