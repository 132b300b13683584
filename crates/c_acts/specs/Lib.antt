pub mod Makings
pub mod Formats
