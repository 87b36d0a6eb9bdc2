pub mod Seen
pub mod Held
pub mod Offers
pub mod Shelves
pub mod Keeps
pub mod Laws
