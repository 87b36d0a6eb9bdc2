-- Each abort line names what the rule found, and each aborted attempt has exactly one.
pub mod Names
pub mod Listings
pub mod OneLine
