pub mod StretchLemmas
pub mod ListingLemmas
pub mod SuccessorLemmas
pub mod SearchLemmas
pub mod TargetLemmas
pub mod ArrivalLemmas
pub mod EdgeLemmas
pub mod HeldLemmas
pub mod RowSearchLemmas
pub mod MetLemmas
pub mod PassLemmas
pub mod RowLaws
mod SixVertices
