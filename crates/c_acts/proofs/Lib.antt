pub mod MadeLemmas
mod ValueLemmas
mod FormatLemmas
pub mod ActLemmas
