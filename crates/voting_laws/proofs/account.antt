-- Attempts one after another, open transactions and the limit: a quiet run leaves nothing undecided.
pub mod Words
pub mod Counting
pub mod Begun
pub mod Ledgers
pub mod Opens
pub mod Rooms
pub mod Quits
pub mod Limited
pub mod LastTurns
pub mod Said
pub mod Sentences
pub mod TurnsTold
pub mod NextHomes
pub mod Ended
