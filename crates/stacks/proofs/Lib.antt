-- Tops: the last elements of a list.
pub mod Tops
-- Cuts: set-asides behind one another, cut by their sizes.
pub mod Cuts
-- Memory: the counts of a stack's memory.
pub mod Memory
-- Chains: tellings one after another.
pub mod Chains
-- Laws: what holds of every operation.
pub mod Laws
-- Places: what an outline is told moves its scopes.
pub mod Places
