use Rattle.std.proofs.Common.{◌≡◌, ◌≤◌, length, drop}
use Rattle.earliest.specs.Scores.{zero64}
use Rattle.earliest.specs.Bounds.{Under}
use Rattle.earliest.proofs.Adding.{rest}
use Rattle.earliest.proofs.path_rank.Given as goal

abbrev pub invariant-loop-scope : goal.invariant-loop-scope
invariant-loop-scope l =
    (l.from ≤ length l.stack)
    × (rest l.sum (drop l.scope-index l.path) (drop l.from l.stack) l.from ≡ rest zero64 l.path l.stack 0)
    × Under l.from l.sum
