-- Layings: a path laid on a stack.
pub mod Layings
-- Ranks: what a ranking promises of its ranks.
pub mod Ranks
-- Places: a laying written out.
pub mod Places
