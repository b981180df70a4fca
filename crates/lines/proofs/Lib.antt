-- Splitting: a text before and behind a byte.
-- Stretching: the stretches of a text.
pub mod Splitting
pub mod Stretching
