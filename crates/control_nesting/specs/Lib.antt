pub mod TakenArms
pub mod ControlledVertices
pub mod Laws
