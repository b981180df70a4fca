use Rattle.std.proofs.Common.{◌≡◌, ℕ, ◌≤◌, List, length, drop}
use Rattle.deepest.specs.Worths.{Room, value, worth}
use Rattle.deepest.proofs.Layings.{Search}
use Rattle.deepest.proofs.search_down.Given as goal

abbrev pub invariant-loop-scope : goal.invariant-loop-scope
invariant-loop-scope l =
    ((gs : List ℕ) × Search l.path l.stack l.left l.below gs × (value l.rank ≡ worth (drop (length l.left) l.path) gs))
    × Room l.rank (length l.below)
    × (length l.below ≤ 64)

abbrev pub decreases-loop-scope : goal.decreases-loop-scope
decreases-loop-scope l = length l.left
