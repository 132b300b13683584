pub mod SpacedWords
pub mod RawLayout
pub mod Settled
pub mod Declarations
pub mod Laws
