pub mod FirstLines
pub mod Made
pub mod Promised
pub mod SliceWords
