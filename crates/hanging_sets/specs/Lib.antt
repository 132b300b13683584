pub mod NamedBy
pub mod Hanging
pub mod OwnParts
pub mod Laws
