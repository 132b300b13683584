pub mod Faults
pub mod Lexed
pub mod Scanning
pub mod Sought
pub mod Numbers
pub mod Laws
