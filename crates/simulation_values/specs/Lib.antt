pub mod Following
pub mod Laws
pub mod Holding
pub mod SameValues
