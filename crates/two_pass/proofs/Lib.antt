pub mod PassLaws
pub mod RuleLaws
