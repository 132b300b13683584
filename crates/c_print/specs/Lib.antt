pub mod Signs
pub mod Lists
pub mod Levels
pub mod Lines
pub mod Feedless
pub mod StartsOn
pub mod FewLines
