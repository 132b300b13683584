pub mod ItemReading
pub mod Parser
