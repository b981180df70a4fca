-- Stacks: a stack as plain lists.
pub mod Stacks
-- Refusals: the number of each, and when it applies.
pub mod Refusals
-- Operations: what an operation makes of a stack.
pub mod Operations
-- Tellings: what a hook is told, and what becomes of it.
pub mod Tellings
-- Outlines: where each scope on a stack began.
pub mod Outlines
