pub mod Exact
pub mod Begins
pub mod CallLaws
pub mod SimpleLaws
pub mod CallSound
pub mod SimpleSound
pub mod CallDeep
