-- What a scope is to its users: a list of atoms, each by its number plus one. The words stay shut outside this crate's proofs.
use Rattle.std.specs.Prelude.{◌≡◌, ℕ, Bool, List, ◌++◌}
use Rattle.scopes.specs.declared.scope.Scope.{Scope}
use Rattle.scopes.specs.Fields.{fields, used, starts}

-- all eight fields, used or not
unfoldable pub fields_in : Scope → List ℕ
fields_in s = fields s.a s.b

-- its atoms: the used fields, each an atom's number plus one
unfoldable pub atoms_in : Scope → List ℕ
atoms_in s = used (fields_in s)

-- p's atoms are the first fields of s
abbrev pub PrefixOf : Scope → Scope → Type 0
PrefixOf p s = (rest : List ℕ) × (fields_in s ≡ atoms_in p ++ rest)

-- whether they are
abbrev pub begins : Scope → Scope → Bool
begins p s = starts (atoms_in p) (fields_in s)
