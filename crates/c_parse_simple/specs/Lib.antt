pub mod SimpleReading
