-- What a ranking promises of its ranks.
use Rattle.std.specs.Prelude.{◌≡◌, ℕ, ◌<◌, ◌≤◌, min, max, ◌⊎◌, List, [], length, Some, None, Option, ◌≢◌}
use Rattle.scopes.specs.declared.scope.Scope.{Scope}
use Rattle.rankings.specs.Layings.{Layable}

-- the nearest of 1 to 8 atoms, and of the positions 0 to 63
abbrev pub near_atoms : ℕ → ℕ
near_atoms n = min 8 (max 1 n)

abbrev pub near_position : ℕ → ℕ
near_position i = min 63 i

-- a number of atoms and a position that are taken as they are
pub record Lone (n i : ℕ) : Type 0 where
  pub some : 1 ≤ n
  pub few : n ≤ 8
  pub low : i < 64

module _ {R : Type 0} (lone : ℕ → ℕ → R) (path : List Scope → List Scope → Option R) where
  -- the ranks that the two questions answer
  abbrev pub Answered : R → Type 0
  Answered r = ((n : ℕ) × (i : ℕ) × Lone n i × (r ≡ lone n i)) ⊎ ((p : List Scope) × (stack : List Scope) × (length stack ≤ 64) × (path p stack ≡ Some r))

-- none exactly if the path is empty or cannot be laid
abbrev pub Answers : {R : Type 0} → List Scope → List Scope → Option R → Type 0
Answers p stack (Some r) = (p ≢ []) × Layable p stack
Answers p stack None = (p ≢ []) → Layable p stack → ⊥
