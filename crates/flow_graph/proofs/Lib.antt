pub mod FlowLemmas
pub mod Rules
pub mod Turns
pub mod Forms
pub mod OrderLaws
pub mod FunctionLaws
