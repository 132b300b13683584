pub mod Rests
pub mod States
pub mod Traces
pub mod Runs
pub mod Sizes
pub mod Progress
