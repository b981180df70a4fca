-- Worths: what a laying is worth, and the words that hold it.
pub mod Worths
-- Best: the highest among all layings.
pub mod Best
-- Manual: the TextMate manual's rule for selectors.
pub mod Manual
-- Tops: a laying that is worth the most.
pub mod Tops
-- BestLaws: `best` is the highest worth among all layings, and the laws of a ranking.
pub mod BestLaws
-- Rooms: digits of four bits in a word.
pub mod Rooms
