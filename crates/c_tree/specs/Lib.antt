pub mod Numbered
pub mod Search
pub mod Unlined
