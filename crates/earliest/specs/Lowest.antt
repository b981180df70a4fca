-- The laying that takes the lowest positions.
use Rattle.std.specs.Prelude.{ℕ, suc, ◌≤◌, cond, List, [], ◌∷◌, Some, None, Option, slice_index}
use Rattle.scopes.specs.declared.scope.Scope.{Scope}
use Rattle.scopes.specs.Scopes.{begins}
use Rattle.rankings.specs.Layings.{Lays, Layable}

-- a laying of the path, and place by place no other lies lower; both have one position for each scope
pub record Lowest (path stack : List Scope) (qs : List ℕ) : Type 0 where
  pub lays : Lays stack 0 path qs
  pub least : (rs : List ℕ) → Lays stack 0 path rs → (k : ℕ) → slice_index qs k ≤ slice_index rs k

-- one position more, in front
abbrev pub before : ℕ → Option (List ℕ) → Option (List ℕ)
before q None = None
before q (Some qs) = Some (q ∷ qs)

-- the lowest possible position for each of the path's scopes in turn, on a stack whose first scope has the position i
abbrev pub places : List Scope → List Scope → ℕ → Option (List ℕ)
places [] stack i = Some []
places (s ∷ path) [] i = None
places (s ∷ path) (t ∷ stack) i = cond (begins s t) (before i (places path stack (suc i))) (places (s ∷ path) stack (suc i))

-- such positions are the lowest laying, and there are none only where there is no laying
abbrev pub Placed : List Scope → List Scope → Option (List ℕ) → Type 0
Placed path stack None = Layable path stack → ⊥
Placed path stack (Some qs) = Lowest path stack qs

-- for every path and stack
abbrev pub PlacesLaw : Type 0
PlacesLaw = (path stack : List Scope) → Placed path stack (places path stack 0)
