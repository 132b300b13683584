pub mod ItemLaws
pub mod ItemSound
pub mod ItemDeep
pub mod NamedLaws
pub mod ParserLaws
