pub mod StatementLaws
pub mod StatementSound
pub mod StatementDeep
