-- Layings: the laying from the top of the stack down is worth the most.
pub mod Layings
-- Rules: the order of worths is the manual's rule.
pub mod Rules
