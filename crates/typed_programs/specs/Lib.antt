pub mod TreeOperands
pub mod FixedValues
pub mod Needs
pub mod TypedStatements
pub mod Laws
