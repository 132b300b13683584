pub mod ProjectedCode
pub mod Counterparts
pub mod LikeParts
pub mod Laws
