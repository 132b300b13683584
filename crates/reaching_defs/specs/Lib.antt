pub mod Arrivals
pub mod FlowEdges
pub mod HeldWords
pub mod Laws
pub mod Listings
pub mod RowFlow
pub mod Stretches
