pub mod Chains
pub mod ListLemmas
pub mod Marking
pub mod RuleLemmas
pub mod SetLemmas
