pub mod Pairs
pub mod Ranks
