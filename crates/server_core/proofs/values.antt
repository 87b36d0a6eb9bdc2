-- What a mail holds, and what the messages of an attempt that fit say of it.
pub mod Called
pub mod Origins
pub mod Values
pub mod Decisions
pub mod Closings
pub mod Closed
pub mod EarlierTurns
