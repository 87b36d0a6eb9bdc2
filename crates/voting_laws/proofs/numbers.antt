-- How long runs and how great their numbers are, and that deliveries make runs that end.
pub mod Events
pub mod Numbers
pub mod Picked
pub mod Deliveries
