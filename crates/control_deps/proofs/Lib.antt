pub mod WalkLemmas
pub mod Rules
pub mod CodeLaws
pub mod StatementLaws
pub mod AttachedLaws
mod AttachedStretch
pub mod ControlLaws
