pub mod Places
pub mod Settings
pub mod Agreeing
pub mod Premises
pub mod Abreast
pub mod Renaming
pub mod Slicings
