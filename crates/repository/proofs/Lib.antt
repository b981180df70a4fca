-- Ends: the atoms that lie under rising ends.
pub mod Ends
-- Cutting: names cut at their dots, and the dots at their end.
pub mod Cutting
-- Places: which atoms are held, and where.
pub mod Places
-- Builds: a name that is not refused, and its scope.
pub mod Builds
-- Owned: a repository's own facts.
pub mod Owned
-- Spelling: atoms joined by dots.
pub mod Spelling
-- Texts: the text of the atom in each field of a scope.
pub mod Texts
-- Joins: cutting at dots and joining by dots undo each other.
pub mod Joins
-- Returning: a scope's name, built again, is the scope.
pub mod Returning
