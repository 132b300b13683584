pub mod TypeForms
pub mod Rulesets
