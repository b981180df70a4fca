-- Words: a text's first word, and what stands behind it.
pub mod Words
-- Numbers: the number that a word writes.
pub mod Numbers
-- Keywords: the words of the language, and the kinds of first words and operations.
pub mod Keywords
-- Reads: what a line says, or where it goes wrong.
pub mod Reads
-- Once: that a line is read in one way only.
pub mod Once
-- Operations: what an action asks of a stack.
pub mod Operations
-- Yields: what the iterator over a text's words gives.
pub mod Yields
