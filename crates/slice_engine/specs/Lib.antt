pub mod Criterion
pub mod Header
pub mod Slice
pub mod Engine
pub mod Laws
pub mod Conversions
pub mod GraphLimits
pub mod Slicing
