pub mod Checker
pub mod Faults
pub mod Limits
