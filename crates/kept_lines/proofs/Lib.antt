pub mod FoundLines
pub mod Rows
