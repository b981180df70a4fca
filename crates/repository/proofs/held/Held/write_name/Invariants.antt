use Rattle.std.proofs.Common.{◌≡◌, ◌++◌, length, take, drop}
use Rattle.scopes.specs.Scopes.{atoms_in}
use Rattle.repository.specs.Names.{dotted}
use Rattle.repository.specs.Writes.{texts}
use Rattle.repository.proofs.held.Held.write_name.Given as goal

abbrev pub invariant-loop-index : goal.invariant-loop-index
invariant-loop-index l =
    (l.at ≡ length (dotted (take l.index (texts l.self (atoms_in l.scope)))))
    × (l.output ≡ dotted (take l.index (texts l.self (atoms_in l.scope))) ++ drop l.at l.initial.output)
