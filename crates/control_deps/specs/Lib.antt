pub mod Attached
pub mod ControlEdges
pub mod Walk
