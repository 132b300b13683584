pub mod LayerLemmas
pub mod NumberedLemmas
pub mod SearchLemmas
pub mod UnlinedLemmas
pub mod Unlining
pub mod RawTrees
pub mod Trees
