pub mod Agreement
pub mod Thinning
pub mod Following
pub mod ThinTexts
pub mod ThinnedBodies
pub mod ThinnedTexts
pub mod Laws
