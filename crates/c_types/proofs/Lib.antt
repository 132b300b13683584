pub mod CheckerLaws
pub mod LimitLemmas
pub mod Rulesets
