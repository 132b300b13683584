mod CallLemmas
pub mod Pieces
mod Streams
