pub mod ProjectedLines
pub mod SamePrograms
pub mod StandsNested
