-- What it is to be a scope's name.
use Rattle.std.specs.Prelude.{◌≡◌, ℕ, ◌≤◌, true, List, length}
use Rattle.scopes.specs.declared.scope.Scope.{Scope}
use Rattle.scopes.specs.Scopes.{atoms_in}
use Rattle.repository.specs.Names.{Atoms}
use Rattle.repository.specs.Writes.{given, spelling}

-- the atoms held have each number of the scope, and spell this name, which has at most 1,024 bytes
pub record IsNameOf (held : Atoms) (scope : Scope) (name : List ℕ) : Type 0 where
  pub given : given held (atoms_in scope) ≡ true
  pub spelled : spelling held scope ≡ name
  pub short : length name ≤ 1024
