pub mod CallParts
pub mod FactWords
pub mod Limits
pub mod Listing
pub mod MadeRows
pub mod OwnStatements
pub mod RowWork
pub mod Seen
