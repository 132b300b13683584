pub mod ClapLaws
pub mod Commands
pub mod FormLaws
pub mod Numbers
pub mod Places
pub mod Rows
pub mod Words
