pub mod IntTypeLaws
pub mod Machine
pub mod OperatorLaws
pub mod Wrapping
