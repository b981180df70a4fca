-- Atoms: a scope has at most eight.
pub mod Atoms
