-- Names: how a name is cut into atoms.
pub mod Names
-- Atoms: numbers of atoms, and which of a name's are new.
pub mod Atoms
-- Refusals: the number of each, and the first that applies.
pub mod Refusals
-- Tables: the atoms that counts and tables stand for.
pub mod Tables
-- Builds: what `build` answers and leaves.
pub mod Builds
-- Held: the atoms that a repository holds.
pub mod Held
-- Writes: a scope's name, and what `write` answers and leaves.
pub mod Writes
-- Laws: what holds of names above these definitions.
pub mod Laws
