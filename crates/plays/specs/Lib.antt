-- Follows: an outline that follows a stack.
pub mod Follows
-- Refusals: the number of each refusal of a change or a line.
pub mod Refusals
-- Makes: what a change of a line does to a stack and its outline.
pub mod Makes
-- Plays: what each directive of a script makes of the state.
pub mod Plays
