pub mod Checked
pub mod DeclaredSteps
pub mod ItemSteps
pub mod StatementSteps
pub mod TextLaws
pub mod WalkSteps
