mod JoinLemmas
mod LayoutLemmas
pub mod SetLemmas
pub mod TableLemmas
mod VectorLemmas
pub mod WordLemmas
