use Rattle.std.proofs.Common.{◌≡◌, ◌+◌, length, drop}
use Rattle.repository.specs.Atoms.{has, place}
use Rattle.repository.specs.Tables.{cuts, Rising}
use Rattle.repository.proofs.held.Held.find.Given as goal

abbrev pub invariant-loop-number : goal.invariant-loop-number
invariant-loop-number l =
    Rising l.start (drop l.number l.self-inside.ends.now) (length l.self-inside.text.now)
    × (has (cuts l.start (drop l.number l.self-inside.ends.now) l.self-inside.text.now) l.atom ≡ has l.self l.atom)
    × (l.number + place (cuts l.start (drop l.number l.self-inside.ends.now) l.self-inside.text.now) l.atom ≡ place l.self l.atom)
