pub mod Ranks
pub mod Projecting
pub mod RunRests
pub mod Places
