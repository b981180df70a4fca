-- A laying written out.
use Rattle.std.specs.Prelude.{ℕ, List, [], ◌∷◌}
use Rattle.scopes.specs.declared.scope.Scope.{Scope}
use Rattle.rankings.specs.declared.Laid.{Laid}
use Rattle.rankings.specs.Layings.{atoms}

-- a path's scopes as they are laid, the first one first
abbrev pub laid_scopes : List Scope → List ℕ → List Laid
laid_scopes [] qs = []
laid_scopes (s ∷ path) [] = []
laid_scopes (s ∷ path) (q ∷ qs) = record { atoms = atoms s; position = q } ∷ laid_scopes path qs
