use Rattle.std.proofs.Common.{◌≡◌, ◌+◌, ◌-◌, ◌^◌, ◌≤◌, min, length, take}
use Rattle.repository.specs.Atoms.{total, learned}
use Rattle.repository.specs.Names.{pieces}
use Rattle.repository.proofs.held.Held.planned.Given as goal

abbrev pub invariant-loop-index : goal.invariant-loop-index
invariant-loop-index l = record {
  next : (goal.iterator-loop-index).can_next l.index-iterator;
  finite : (goal.iterator-loop-index).is_finite l.index-iterator;
  few : l.atoms ≤ 4096 + length l.yielded;
  atoms : l.atoms ≡ length (learned l.self (take (length l.yielded) (pieces l.text)));
  bytes : l.bytes ≡ min (total (learned l.self (take (length l.yielded) (pieces l.text)))) (2 ^ 64 - 1);
}
