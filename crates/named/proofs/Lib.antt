-- Turns: one more name.
pub mod Turns
