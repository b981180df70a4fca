use Rattle.std.proofs.Common.{◌≡◌, ◌*◌, ◌≤◌, length, take, drop}
use Rattle.scopes.specs.Scopes.{atoms_in}
use Rattle.repository.specs.Names.{dotted}
use Rattle.repository.specs.Writes.{given, texts}
use Rattle.repository.proofs.held.Held.name_len.Given as given'

abbrev pub invariant-loop-i : given'.invariant-loop-i
invariant-loop-i l =
    (given l.self (drop l.i (atoms_in l.scope)) ≡ given l.self (atoms_in l.scope))
    × (l.len ≤ l.i * 65537)
    × (l.len ≡ length (dotted (take l.i (texts l.self (atoms_in l.scope)))))
