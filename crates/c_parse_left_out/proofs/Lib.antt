pub mod PlaceLemmas
pub mod TellingLaws
pub mod NamingLaws
pub mod AroundLemmas
pub mod NearLaws
