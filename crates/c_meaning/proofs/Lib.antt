pub mod Frames
pub mod Closing
pub mod Codes
pub mod Runs
pub mod MeaningSteps
pub mod Origins
pub mod Small
mod SmallPrograms
mod SmallObjects
mod SmallCalls
mod SmallRuns
