pub mod ReadAgain
pub mod Places
pub mod SyntaxLayout
