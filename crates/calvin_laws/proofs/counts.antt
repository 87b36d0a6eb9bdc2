-- How many mails of a kind there are in a run, and that each mail in flight fits its node.
pub mod Counts
pub mod Ledgers
pub mod Bounds
pub mod Limits
pub mod Fits
pub mod RightMails
pub mod FineRows
pub mod Deliveries
