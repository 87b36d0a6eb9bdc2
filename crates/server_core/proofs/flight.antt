-- Between which nodes mails go, what is in flight at the start, and what a schedule picks.
pub mod Addresses
pub mod OpeningMails
pub mod Flights
pub mod AnyDeliveries
