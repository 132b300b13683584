pub mod Reading
pub mod Skeletons
