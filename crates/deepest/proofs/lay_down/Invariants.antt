use Rattle.std.proofs.Common.{◌≡◌, ℕ, ◌≤◌, List, length, take, drop}
use Rattle.rankings.specs.Places.{laid_scopes}
use Rattle.deepest.proofs.Layings.{Search}
use Rattle.deepest.proofs.lay_down.Given as goal

abbrev pub invariant-loop-scope : goal.invariant-loop-scope
invariant-loop-scope l =
    ((gs : List ℕ) × Search l.path l.stack l.left l.below gs
    × (drop (length l.left) (take (length l.path) l.laid) ≡ laid_scopes (drop (length l.left) l.path) gs))
    × (length l.left ≤ length l.path)
    × (length l.laid ≡ 64)

abbrev pub decreases-loop-scope : goal.decreases-loop-scope
decreases-loop-scope l = length l.left
