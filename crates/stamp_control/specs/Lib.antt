pub mod Picks
pub mod Pasts
pub mod Fronts
pub mod Changes
pub mod Standing
