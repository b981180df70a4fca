-- What `build` answers and leaves.
use Rattle.std.specs.Prelude.{◌≡◌, ℕ, List, Some, None, Ok, Err, Result}
use Rattle.scopes.specs.declared.scope.Scope.{Scope}
use Rattle.scopes.specs.Scopes.{atoms_in}
use Rattle.repository.specs.declared.faults.NameFault.{NameFault}
use Rattle.repository.specs.Names.{Atoms, cut}
use Rattle.repository.specs.Atoms.{fields_for}
use Rattle.repository.specs.Refusals.{name_number, known, refusal}

-- no refusal applies, the name's new atoms stand behind those held, and the scope has the number of each of its atoms
pub record Accepted (held : Atoms) (name : List ℕ) (s : Scope) (after : Atoms) : Type 0 where
  pub unrefused : refusal held name ≡ None
  pub atoms : after ≡ known held name
  pub fields : atoms_in s ≡ fields_for after (cut name)

-- the first refusal that applies, and the atoms are as they were
pub record Refused (held : Atoms) (name : List ℕ) (f : NameFault) (after : Atoms) : Type 0 where
  pub first : refusal held name ≡ Some (name_number f)
  pub atoms : after ≡ held

abbrev pub Builds : Atoms → List ℕ → Result Scope NameFault → Atoms → Type 0
Builds held name (Ok s) after = Accepted held name s after
Builds held name (Err f) after = Refused held name f after
