pub mod PassRules
pub mod Ready
pub mod CallRules
