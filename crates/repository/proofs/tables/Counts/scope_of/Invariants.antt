use Rattle.std.proofs.Common.{◌≡◌, length, take, drop}
use Rattle.scopes.specs.Scopes.{atoms_in}
use Rattle.repository.specs.Atoms.{learned, fields_for}
use Rattle.repository.specs.Names.{pieces}
use Rattle.repository.specs.Tables.{Extends, held_by}
use Rattle.repository.proofs.tables.Counts.scope_of.Given as goal

abbrev pub invariant-loop-piece : goal.invariant-loop-piece
invariant-loop-piece l = record {
  next : (goal.iterator-loop-piece).can_next l.piece-iterator;
  finite : (goal.iterator-loop-piece).is_finite l.piece-iterator;
  extends : Extends l.initial.self l.initial.tables l.self l.tables;
  held : learned (held_by l.self l.tables) (drop (length l.yielded) (pieces l.text)) ≡ learned (held_by l.initial.self l.initial.tables) (pieces l.text);
  fields : atoms_in l.scope ≡ fields_for (learned (held_by l.initial.self l.initial.tables) (pieces l.text)) (take (length l.yielded) (pieces l.text));
}
