pub mod Kept
pub mod Names
pub mod Renumbering
pub mod Projection
pub mod KeptVertices
pub mod Parts
pub mod Referring
pub mod Selected
