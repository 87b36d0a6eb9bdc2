mod Asked
pub mod Ids
pub mod ListedNumbers
pub mod OptionPairs
pub mod Turns
