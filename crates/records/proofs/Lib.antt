-- Spelled: a name that was written is the scope's.
pub mod Spelled
