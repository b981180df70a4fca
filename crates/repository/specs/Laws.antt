-- Laws of names above their definitions, in terms of `cut`, `build` and `write`.
use Rattle.std.specs.Prelude.{◌≡◌, ℕ, ◌<◌, ◌≤◌, true, false, List, [], ◌∷◌, ◌++◌, length, take, ◌≢◌, slice_index_or}
use Rattle.std.specs.List.{AllByRecursion}
use Rattle.scopes.specs.declared.scope.Scope.{Scope}
use Rattle.scopes.specs.Scopes.{atoms_in}
use Rattle.repository.specs.Names.{Atoms, dotted, cut}
use Rattle.repository.specs.Atoms.{has, total, news}
use Rattle.repository.specs.Builds.{Accepted}
use Rattle.repository.specs.Writes.{given, spelling}

-- a name is its atoms joined by dots, with some dots behind them
pub record Cuts (name : List ℕ) (atoms : Atoms) : Type 0 where
  pub ending : List ℕ
  pub whole : name ≡ dotted atoms ++ ending
  pub dots : AllByRecursion (λ b. b ≡ 46) ending
  -- all the dots at the end are among those
  pub stripped : (front : List ℕ) → dotted atoms ≢ front ++ 46 ∷ []
  -- no atom holds a dot
  pub plain : AllByRecursion (λ a. AllByRecursion (λ b. b ≢ 46) a) atoms
  -- the empty name alone has no atoms
  pub none : atoms ≡ [] → name ≡ []
  pub empty : name ≡ [] → atoms ≡ []

-- the atoms of a name are such, and no others are
pub record CutLaw (name : List ℕ) : Type 0 where
  pub cuts : Cuts name (cut name)
  pub only : (atoms : Atoms) → Cuts name atoms → atoms ≡ cut name

-- of a name's atoms the new ones: they are the name's, each is new where it stands, and with them all are held
pub record NewLaw (held atoms : Atoms) : Type 0 where
  pub own : AllByRecursion (λ a. has atoms a ≡ true) (news held atoms)
  pub once : (i : ℕ) → i < length (news held atoms) → has (held ++ take i (news held atoms)) (slice_index_or (news held atoms) i []) ≡ false
  pub all : AllByRecursion (λ a. has (held ++ news held atoms) a ≡ true) atoms

-- the atoms of a later repository: the same, and perhaps more behind them
pub record Later (held later : Atoms) : Type 0 where
  pub more : Atoms
  pub begins : later ≡ held ++ more
  pub few : length later ≤ 4096
  pub short : total later ≤ 65536

-- a scope that was built from a name, in such a repository: its numbers were given out; its name is that name without
-- the dots at its end; and that, built again, is the scope, and the atoms stay as they are. The exception is one empty
-- atom, whose name is the empty name
pub record Returns (held : Atoms) (name : List ℕ) (s : Scope) : Type 0 where
  pub written : given held (atoms_in s) ≡ true
  pub spelled : spelling held s ≡ dotted (cut name)
  pub built : (cut name ≢ [] ∷ []) → Accepted held (spelling held s) s held

-- so it is in every later repository
abbrev pub RoundTrip : Atoms → List ℕ → Scope → Type 0
RoundTrip held name s = (later : Atoms) → Later held later → Returns later name s
