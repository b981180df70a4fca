-- Fields: the words of a scope as a list of eight fields, and which of them are used.
pub mod Fields
-- Scopes: the same of a value of the type.
pub mod Scopes
