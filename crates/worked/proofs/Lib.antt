-- Rounded: a sum that is rounded.
pub mod Rounded
