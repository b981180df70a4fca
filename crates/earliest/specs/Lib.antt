-- Scores: the score of a laying, as a double.
pub mod Scores
-- Lowest: the laying that takes the lowest positions.
pub mod Lowest
-- Ranks: the rank of a path, and what is promised of it.
pub mod Ranks
-- Places: a laying written out.
pub mod Places
-- Doubles: powers of two by their bits, sums and products by values.
pub mod Doubles
-- Bounds: how large a sum can be.
pub mod Bounds
-- BitOrder: the order of doubles with the sign clear is that of their bits.
pub mod BitOrder
-- LoneLaws: the ranks of lone scopes.
pub mod LoneLaws
-- Placement: the positions that are taken are the lowest.
pub mod Placement
-- Sums: a laying's score is finite, and exact on few scopes.
pub mod Sums
-- PathLaws: what is promised of a path's rank.
pub mod PathLaws
-- RankingLaws: the laws of a ranking.
pub mod RankingLaws
