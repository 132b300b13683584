pub mod Rows
pub mod Numbered
pub mod NameRules
pub mod Closing
pub mod Laws
