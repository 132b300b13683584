pub mod EdgeLess
pub mod MergeLemmas
pub mod UnionLaws
