-- A laying written out.
use Rattle.std.specs.Prelude.{◌≡◌, ℕ, List, [], length, take, Some, None, Option, ◌≢◌}
use Rattle.scopes.specs.declared.scope.Scope.{Scope}
use Rattle.rankings.specs.Layings as layings
use Rattle.rankings.specs.declared.Places.{Places}
use Rattle.rankings.specs.Places.{laid_scopes}
use Rattle.earliest.specs.Lowest.{Lowest}

-- the first `count` entries are the lowest laying, and none come where the path is empty or cannot be laid
abbrev pub ListsLowest : List Scope → List Scope → Option Places → Type 0
ListsLowest path stack None = (path ≢ []) → layings.Layable path stack → ⊥
ListsLowest path stack (Some p) = (path ≢ []) × (p.count ≡ length path) × ((qs : List ℕ) × Lowest path stack qs × (take p.count p.laid ≡ laid_scopes path qs))
