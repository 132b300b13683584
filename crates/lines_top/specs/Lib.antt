pub mod Exits
pub mod Promises
pub mod Puts
pub mod Texts
pub mod Words
