use Rattle.std.proofs.Common.{◌≡◌, ◌≤◌, length}
use Rattle.named.specs.Names.{BuildsFirst}
use Rattle.repository.specs.Held.{atoms_of}
use Rattle.scripts.specs.Yields.{left_of, size_of}
use Rattle.named.proofs.read_scopes.Given as goal

abbrev pub invariant-loop-at : goal.invariant-loop-at
invariant-loop-at g l = record {
  can : (goal.iterator-loop-at g).can_next l.at-iterator;
  finite : (goal.iterator-loop-at g).is_finite l.at-iterator;
  built : BuildsFirst (atoms_of l.fn.repository) l.names l.scopes.items (atoms_of l.repository) (left_of l.at-iterator);
  within : length l.scopes.items ≤ g.row.N;
  size : size_of l.at-iterator ≡ length l.names;
}
