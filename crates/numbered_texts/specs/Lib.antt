pub mod FittingCalls
pub mod Laws
