-- Witnessed: what a telling makes of a mirror and of a witness.
pub mod Witnessed
