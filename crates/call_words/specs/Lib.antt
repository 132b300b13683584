pub mod Arguments
pub mod Clap
pub mod Forms
pub mod Grammar
pub mod Requests
pub mod Sorting
