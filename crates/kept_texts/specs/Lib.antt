pub mod KeptNames
pub mod Laws
