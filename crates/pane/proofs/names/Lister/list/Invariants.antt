use Rattle.std.proofs.Common.{◌≡◌, length}
use Rattle.repository.specs.Held.{atoms_of}
use Rattle.pane.proofs.Listed.{SoFar}
use Rattle.pane.proofs.names.Lister.list.Given as goal

abbrev pub invariant-loop-line : goal.invariant-loop-line
invariant-loop-line g l =
    SoFar l.text l.line-iterator (atoms_of l.initial.self.repository) l.tally (atoms_of l.self.repository)
    × (length l.self.buffer.items ≡ length l.initial.self.buffer.items)
