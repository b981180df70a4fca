-- A laying that is worth the most.
use Rattle.std.specs.Prelude.{◌≡◌, ℕ, ◌≤◌, List, length, take, Some, None, Option}
use Rattle.scopes.specs.declared.scope.Scope.{Scope}
use Rattle.rankings.specs.Layings.{Lays}
use Rattle.deepest.specs.Worths.{worth, digits}
use Rattle.deepest.specs.Best.{path_digits}
use Rattle.rankings.specs.Places.{laid_scopes}
use Rattle.rankings.specs.declared.Places.{Places}

-- the first entries are a laying of the path on the stack; none is worth more, and this one has the path's rank
pub record TopLaying (path stack : List Scope) (p : Places) : Type 0 where
  pub few : p.count ≤ 64
  pub count : p.count ≡ length path
  pub positions : List ℕ
  pub lays : Lays stack 0 path positions
  pub scopes : take p.count p.laid ≡ laid_scopes path positions
  pub most : (qs : List ℕ) → Lays stack 0 path qs → worth path qs ≤ worth path positions
  pub rank : path_digits path stack ≡ Some (digits (worth path positions))

-- and there is none exactly if the path has no rank
abbrev pub LaidTop : List Scope → List Scope → Option Places → Type 0
LaidTop path stack (Some p) = TopLaying path stack p
LaidTop path stack None = path_digits path stack ≡ None
