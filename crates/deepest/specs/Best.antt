-- The highest among all layings of a path on a stack: as a relation, and as a function.
use Rattle.std.specs.Prelude.{◌≡◌, ℕ, suc, ◌+◌, ◌*◌, ◌^◌, ◌≤◌, max, cond, List, [], ◌∷◌, Some, None, Option, ◌≢◌}
use Rattle.std.specs.Option.{option_map}
use Rattle.scopes.specs.declared.scope.Scope.{Scope}
use Rattle.scopes.specs.Scopes.{begins}
use Rattle.rankings.specs.Layings.{atoms, Lays, Layable}
use Rattle.deepest.specs.Worths.{worth, value, Words, digits}
use Rattle.deepest.specs.declared.Digits.{Digits}

-- some digits are the highest among a path's layings: of one of them, and none is worth more
pub record HighestDigits (path stack : List Scope) (d : Digits) : Type 0 where
  pub some : path ≡ [] → ⊥
  pub words : Words d
  pub laid : (qs : List ℕ) × Lays stack 0 path qs × (value d ≡ worth path qs)
  pub most : (qs : List ℕ) → Lays stack 0 path qs → worth path qs ≤ value d

-- and there are none exactly if the path is empty or cannot be laid
abbrev pub Highest : List Scope → List Scope → Option Digits → Type 0
Highest path stack (Some d) = HighestDigits path stack d
Highest path stack None = (path ≢ []) → Layable path stack → ⊥

-- v is the highest of w over what P holds of, and there is none where P holds of nothing
abbrev pub HighOf : (List ℕ → Type 0) → (List ℕ → ℕ) → Option ℕ → Type 0
HighOf P w None = (qs : List ℕ) → P qs → ⊥
HighOf P w (Some v) = ((qs : List ℕ) × P qs × (v ≡ w qs)) × ((qs : List ℕ) → P qs → w qs ≤ v)

-- the higher of two, where there are two
abbrev pub higher : Option ℕ → Option ℕ → Option ℕ
higher None b = b
higher (Some x) None = Some x
higher (Some x) (Some y) = Some (max x y)

-- the highest worth of a path on a stack whose lowest scope has position i: its first scope lies there, or further up
abbrev pub best : List Scope → List Scope → ℕ → Option ℕ
best [] stack i = Some 0
best (s ∷ path) [] i = None
best (s ∷ path) (t ∷ stack) i =
    higher (cond (begins s t) (option_map (λ v. atoms s * 2 ^ (4 * i) + v) (best path stack (suc i))) None) (best (s ∷ path) stack (suc i))

-- that is the highest among all layings
abbrev pub BestIsHighest : Type 0
BestIsHighest = (path stack : List Scope) → HighOf (Lays stack 0 path) (worth path) (best path stack 0)

-- the rank of a path on a stack: its highest worth, in words
abbrev pub path_digits : List Scope → List Scope → Option Digits
path_digits [] stack = None
path_digits (s ∷ path) stack = option_map digits (best (s ∷ path) stack 0)
