mod Seats
mod Places
mod Shared
