pub mod Wanted
pub mod KeptVertices
pub mod Chained
pub mod Laws
