pub mod Places
pub mod Telling
pub mod Around
pub mod Naming
pub mod Near
