pub mod Accepted
mod Bounds
mod Checks
mod Counted
mod Digits
mod Functions
mod Good
mod Heads
mod Limits
mod Mains
mod Names
mod Nesting
mod Places
mod Rules
pub mod Short
mod Spelled
mod Syntax
mod Texts
mod Typed
