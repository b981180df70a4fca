-- A laying of a path on a stack: rising positions, one for each of the path's scopes, where that scope is a prefix of the
-- stack's.
use Rattle.std.specs.Prelude.{◌≡◌, ℕ, suc, ◌<◌, ◌≤◌, true, List, [], ◌∷◌, length, Some, None, Option, slice_index_or, refl}
use Rattle.scopes.specs.declared.scope.Scope.{Scope}
use Rattle.scopes.specs.Scopes.{atoms_in, begins}

-- how many atoms a scope has
abbrev pub atoms : Scope → ℕ
atoms s = length (atoms_in s)

-- the empty scope, where a list has none
abbrev pub blank : Scope
blank = record { a = 0; b = 0; used_first = refl }

-- a scope fits a stack at a position: it is a prefix of the scope there
pub record FitsAt (s : Scope) (stack : List Scope) (position : ℕ) : Type 0 where
  pub within : position < length stack
  pub prefix : begins s (slice_index_or stack position blank) ≡ true

-- the highest position that a scope fits, if there is one
abbrev pub HighestFit : Scope → List Scope → Option ℕ → Type 0
HighestFit s stack (Some q) = FitsAt s stack q × ((i : ℕ) → FitsAt s stack i → i ≤ q)
HighestFit s stack None = (i : ℕ) → FitsAt s stack i → ⊥

-- the lowest one
abbrev pub LowestFit : Scope → List Scope → Option ℕ → Type 0
LowestFit s stack (Some q) = FitsAt s stack q × ((i : ℕ) → FitsAt s stack i → q ≤ i)
LowestFit s stack None = (i : ℕ) → FitsAt s stack i → ⊥

-- the positions rise, the first being no lower than `from`, and each of the path's scopes fits at its own
abbrev pub Lays : List Scope → ℕ → List Scope → List ℕ → Type 0
Lays stack from [] [] = Unit {0}
Lays stack from [] (q ∷ qs) = ⊥
Lays stack from (s ∷ path) [] = ⊥
Lays stack from (s ∷ path) (q ∷ qs) = (from ≤ q) × FitsAt s stack q × Lays stack (suc q) path qs

-- a path can be laid
abbrev pub Layable : List Scope → List Scope → Type 0
Layable path stack = (qs : List ℕ) × Lays stack 0 path qs
