-- How many mails of a kind a node says and handles, and that what is in flight, handled, in the opening and said balances.
pub mod Conserved
pub mod Local
pub mod Quiet
pub mod Prepares
pub mod Asks
pub mod Starts
pub mod Ends
