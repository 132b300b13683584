pub mod Columns
pub mod Effects
pub mod Laws
pub mod Own
