pub mod NameForms
pub mod NamesPass
pub mod WholeLemmas
pub mod HeldLemmas
pub mod ChosenLemmas
pub mod OrderLemmas
pub mod ProjectedForms
