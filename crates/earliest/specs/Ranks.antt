-- The rank of a path, and what is promised of it.
use Rattle.std.specs.Prelude.{◌≡◌, ℕ, ◌≤◌, T, List, [], ◌∷◌, length, pos, Some, None, Option, ◌≢◌, nat_le, to_bits, Float}
use Rattle.std.specs.Float.{binary64}
use Rattle.std.specs.Float.Ieee.{of_int, le}
use Rattle.std.specs.Float.Ieee.Scale.{finite}
use Rattle.scopes.specs.declared.scope.Scope.{Scope}
use Rattle.rankings.specs.Layings.{Lays, Layable}
use Rattle.earliest.specs.Scores.{zero64, summed, score, exact}
use Rattle.earliest.specs.Lowest.{Lowest, places}

-- the bits of a path's terms added to x, where there are positions
abbrev pub bits : Float → List Scope → Option (List ℕ) → Option ℕ
bits x path None = None
bits x path (Some qs) = Some (to_bits binary64 (summed x path qs))

-- the bits of the score at the lowest positions; an empty path has no rank
abbrev pub path_rank : List Scope → List Scope → Option ℕ
path_rank [] stack = None
path_rank (s ∷ path) stack = bits zero64 (s ∷ path) (places (s ∷ path) stack 0)

-- the bits are those of the lowest laying's score, and none come where the path is empty or cannot be laid
abbrev pub ByLowest : List Scope → List Scope → Option ℕ → Type 0
ByLowest path stack None = (path ≢ []) → Layable path stack → ⊥
ByLowest path stack (Some r) = (path ≢ []) × ((qs : List ℕ) × Lowest path stack qs × (r ≡ to_bits binary64 (score path qs)))

-- every laying's score is a finite number
abbrev pub Finite : List Scope → List Scope → Type 0
Finite path stack = (qs : List ℕ) → Lays stack 0 path qs → T (finite (score path qs))

-- on at most 17 scopes, the bits are those of the exact whole number
abbrev pub Whole : List Scope → List Scope → Option ℕ → Type 0
Whole path stack None = Unit {0}
Whole path stack (Some r) = length stack ≤ 17 → (qs : List ℕ) → Lowest path stack qs → r ≡ to_bits binary64 (of_int binary64 (pos (exact path qs)))

-- of the scores of layings, the order of the bits is that of the doubles
abbrev pub ScoresOrder : Type 0
ScoresOrder = (p q stack other : List Scope) (qs rs : List ℕ) → length stack ≤ 64 → length other ≤ 64 → Lays stack 0 p qs → Lays other 0 q rs → nat_le (to_bits binary64 (score p qs)) (to_bits binary64 (score q rs)) ≡ le (score p qs) (score q rs)
