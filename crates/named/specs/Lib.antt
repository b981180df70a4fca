-- Names: what the names in a text come to.
pub mod Names
