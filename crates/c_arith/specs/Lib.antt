pub mod IntType
pub mod Operators
