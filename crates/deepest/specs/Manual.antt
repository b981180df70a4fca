-- The TextMate manual's rule for selectors: the one whose deepest scope lies deeper ranks higher; at the same place, the one that
-- matches more of it; else the two without that scope, in turn. When one has no scope left the other ranks higher, and when neither
-- has they rank the same.
use Rattle.std.specs.Prelude.{◌≡◌, ℕ, ◌<◌, ◌≤◌, ◌⊎◌, List, [], ◌∷◌}
use Rattle.scopes.specs.declared.scope.Scope.{Scope}
use Rattle.rankings.specs.Layings.{atoms, Lays}
use Rattle.rankings.specs.declared.Laid.{Laid}
use Rattle.rankings.specs.Places.{laid_scopes}
use Rattle.deepest.specs.Worths.{worth}

-- some laid scopes from the last one on, above others
abbrev pub turned : List Laid → List Laid → List Laid
turned [] below = below
turned (a ∷ above) below = turned above (a ∷ below)

-- the same from the deepest one on
abbrev pub deepest_first : List Scope → List ℕ → List Laid
deepest_first path qs = turned (laid_scopes path qs) []

-- one ranks higher than another, both from the deepest scope on
abbrev pub Wins : List Laid → List Laid → Type 0
Wins [] ys = ⊥
Wins (x ∷ xs) [] = Unit {0}
Wins (x ∷ xs) (y ∷ ys) =
    (y.position < x.position)
    ⊎ ((x.position ≡ y.position) × (y.atoms < x.atoms))
    ⊎ ((x.position ≡ y.position) × (x.atoms ≡ y.atoms) × Wins xs ys)

-- each scope has atoms
abbrev pub AllSome : List Scope → Type 0
AllSome [] = Unit {0}
AllSome (s ∷ path) = (1 ≤ atoms s) × AllSome path

-- what the rule says of two layings, by what they are worth
pub record ByRule (p : List Scope) (qs : List ℕ) (p' : List Scope) (qs' : List ℕ) : Type 0 where
  pub wins : Wins (deepest_first p qs) (deepest_first p' qs') → worth p' qs' < worth p qs
  pub higher : worth p' qs' < worth p qs → Wins (deepest_first p qs) (deepest_first p' qs')
  pub equal : deepest_first p qs ≡ deepest_first p' qs' → worth p qs ≡ worth p' qs'
  pub same : worth p qs ≡ worth p' qs' → deepest_first p qs ≡ deepest_first p' qs'

-- the order of worths is that rule, for any two paths and stacks
abbrev pub Manual : Type 0
Manual =
    (stack p : List Scope) (qs : List ℕ) (stack' p' : List Scope) (qs' : List ℕ)
    → AllSome p → AllSome p' → Lays stack 0 p qs → Lays stack' 0 p' qs' → ByRule p qs p' qs'
