pub mod Outcome
pub mod IntReading
pub mod ExprReading
pub mod TypeReading
