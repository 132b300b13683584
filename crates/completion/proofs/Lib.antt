mod RowLaws
mod StatementLaws
mod Members
mod NameLaws
mod Closures
mod FormalLaws
mod WordTails
pub mod Projectable
mod EntryLaws
