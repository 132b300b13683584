pub mod CountConstants
pub mod Counted
pub mod LeftForms
pub mod LeftNests
pub mod LeftSyntax
pub mod ThinnedStatements
pub mod ThinnedTexts
pub mod WellFormed
