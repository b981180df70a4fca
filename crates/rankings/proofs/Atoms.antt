-- A scope has at most eight atoms.
use Rattle.std.proofs.Common.{ℕ, ◌≤◌, Bool, true, false, cond, eqb, List, [], ◌∷◌, length, arith}
use Rattle.scopes.specs.declared.scope.Scope.{Scope}
use Rattle.scopes.specs.Fields.{fields, used}
use Rattle.scopes.specs.Scopes.{fields_in, atoms_in}
use Rattle.rankings.specs.Layings.{atoms}

used_few : (fs : List ℕ) → length (used fs) ≤ length fs
used_few [] = omega arith
used_few (f ∷ fs) = go (eqb f 0) (used_few fs)
  where
    go : (b : Bool) → length (used fs) ≤ length fs → length (cond b [] (f ∷ used fs)) ≤ length (f ∷ fs)
    go true h = omega arith
    go false h = omega arith

pub atoms_few : (s : Scope) → atoms s ≤ 8
unfolding atoms_in fields_in
atoms_few s = used_few (fields s.a s.b)
