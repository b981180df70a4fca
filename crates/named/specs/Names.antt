-- What the names in a text come to. A name is a word of the text.
use Rattle.std.specs.Prelude.{◌≡◌, ℕ, ◌<◌, ◌≤◌, ◌⊎◌, List, [], ◌∷◌, length, Ok, Err}
use Rattle.scopes.specs.declared.scope.Scope.{Scope}
use Rattle.repository.specs.declared.faults.NameFault.{NameFault}
use Rattle.repository.specs.Names.{Atoms}
use Rattle.repository.specs.Builds.{Builds}
use Rattle.scripts.specs.Words.{Word, Found}

-- a text's first names are built in turn, and give these scopes; the rest stands behind them
abbrev pub BuildsFirst : Atoms → List ℕ → List Scope → Atoms → List ℕ → Type 0
BuildsFirst held text [] after rest = (after ≡ held) × (rest ≡ text)
BuildsFirst held text (x ∷ xs) after rest =
    (name : List ℕ) × (behind : List ℕ) × (then : Atoms) × Word text name behind × (name ≡ [] → ⊥) × Builds held name (Ok x) then × BuildsFirst then behind xs after rest

-- the scopes of all names of a text, or of its first n where there are more
pub record Named (n : ℕ) (held : Atoms) (text : List ℕ) (scopes : List Scope) (after : Atoms) : Type 0 where
  pub rest : List ℕ
  pub built : BuildsFirst held text scopes after rest
  pub within : length scopes ≤ n
  pub whole : (length scopes ≡ n) ⊎ Word rest [] []

-- one of the first n names is refused, where those before it are built, to these scopes; it stands at `at` in the text
pub record RefusesBehind (n : ℕ) (held : Atoms) (text : List ℕ) (scopes : List Scope) (at : ℕ) (fault : NameFault) (after : Atoms) : Type 0 where
  pub then : Atoms
  pub rest : List ℕ
  pub name : List ℕ
  pub behind : List ℕ
  pub built : BuildsFirst held text scopes then rest
  pub within : length scopes < n
  pub found : Found (length text) rest name behind at
  pub some : name ≡ [] → ⊥
  pub refused : Builds then name (Err fault) after

-- the same, whatever these scopes are
pub record Refuses (n : ℕ) (held : Atoms) (text : List ℕ) (at : ℕ) (fault : NameFault) (after : Atoms) : Type 0 where
  pub scopes : List Scope
  pub then : Atoms
  pub rest : List ℕ
  pub name : List ℕ
  pub behind : List ℕ
  pub built : BuildsFirst held text scopes then rest
  pub within : length scopes < n
  pub found : Found (length text) rest name behind at
  pub some : name ≡ [] → ⊥
  pub refused : Builds then name (Err fault) after
