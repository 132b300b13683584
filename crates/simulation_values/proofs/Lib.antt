pub mod GoneFrames
pub mod Moves
pub mod BegunGlobals
pub mod Constants
pub mod Globals
pub mod Openings
pub mod BegunParts
pub mod OwnedVariables
pub mod TextGlobals
pub mod HoldingCalls
pub mod Tellings
pub mod Together
pub mod SoundCalls
pub mod Joint
pub mod Likeness
pub mod Values
mod SmallSlices
