-- Listing: the names on the lines of a text, and what building them in turn comes to.
pub mod Listing
