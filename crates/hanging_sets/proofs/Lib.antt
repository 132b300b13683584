pub mod NamedDoings
pub mod HeldVertices
pub mod Owners
pub mod KeptDoings
mod KeptCalls
mod Returning
mod KeptReturns
pub mod Taken
mod KeptVariables
mod Hanging
pub mod WellFormedSets
mod SameProjections
