pub mod NameForms
pub mod MarkLemmas
