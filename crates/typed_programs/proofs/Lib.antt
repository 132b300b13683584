pub mod FixedTrees
pub mod Members
pub mod OperandForms
pub mod Options
pub mod NeedForms
pub mod Seeing
mod SmallPrograms
pub mod TextOperands
pub mod Treed
pub mod TreeTypes
pub mod TypedItems
pub mod TypedPhrases
pub mod TypedPrograms
pub mod TypedTexts
pub mod TypedUses
