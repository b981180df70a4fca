use Rattle.std.proofs.Common.{◌≡◌, ◌≤◌, [], length, take, drop}
use Rattle.earliest.proofs.Entries.{listed}
use Rattle.earliest.proofs.places.lay_on.Given as goal

abbrev pub invariant-loop-k : goal.invariant-loop-k
invariant-loop-k l =
    (l.from ≤ length l.stack)
    × (l.k ≤ l.from)
    × (length l.laid ≡ 64)
    × (listed (take l.k l.laid) (drop l.k l.path) (drop l.from l.stack) l.from ≡ listed [] l.path l.stack 0)
