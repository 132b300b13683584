pub mod Agendas
pub mod Moves
pub mod Rounds
pub mod Sweeps
