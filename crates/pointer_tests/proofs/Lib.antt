pub mod Skeletons
pub mod WellFormed
