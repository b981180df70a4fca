-- Listed: a listing as it grows.
pub mod Listed
