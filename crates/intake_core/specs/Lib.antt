pub mod Worlds
pub mod Verdicts
pub mod Ticks
