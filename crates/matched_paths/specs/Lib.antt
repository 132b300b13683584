pub mod Backward
pub mod EdgeGroups
pub mod Laws
pub mod Places
pub mod StepRules
pub mod VertexRanges
