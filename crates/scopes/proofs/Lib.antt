-- Words: the fields of a word against its trailing zeros, and one more field.
pub mod Words
-- Gaps: the test for gaps against what a gap is.
pub mod Gaps
-- Used: the used fields among all.
pub mod Used
