-- Turns: a turn of the loop that lays a path.
pub mod Turns
-- Entries: the same, with the laying written out.
pub mod Entries
-- Adding: a turn of the loop that adds the terms of what it lays.
pub mod Adding
