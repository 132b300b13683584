pub mod Nested
pub mod Staying
pub mod Laws
