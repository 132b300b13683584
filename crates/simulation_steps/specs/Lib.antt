pub mod Likeness
pub mod OwnGlobals
pub mod LikeCalls
pub mod SlicePairs
pub mod Laws
