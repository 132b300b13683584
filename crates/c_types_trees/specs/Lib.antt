pub mod KeptPhrases
pub mod FitPhrases
pub mod Shapes
