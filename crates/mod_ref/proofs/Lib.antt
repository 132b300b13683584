mod AddedLemmas
mod CallLemmas
mod CalledLaws
mod ColumnLemmas
pub mod InsideForms
mod OwnLaws
pub mod PlacedEffects
mod Rules
