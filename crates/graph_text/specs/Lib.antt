pub mod Lines
pub mod Places
pub mod RowWalk
pub mod Rows
