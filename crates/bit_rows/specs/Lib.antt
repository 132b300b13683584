pub mod Sets
pub mod Tables
pub mod Words
