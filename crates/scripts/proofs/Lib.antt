-- Cutting: a text cut into blanks, a word and the rest.
pub mod Cutting
-- Growing: numbers, a digit at a time.
pub mod Growing
-- Answering: the one answer to a line.
pub mod Answering
