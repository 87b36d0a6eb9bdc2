-- In every run each mail in flight fits its node: the ledger of the mails of an attempt, and the conditions of each call.
pub mod Heard
pub mod Replies
pub mod Account
pub mod Stamps
pub mod Joins
pub mod Lands
pub mod Conditions
pub mod Every
