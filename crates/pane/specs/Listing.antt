-- The names on the lines of a text, and what building them in turn comes to.
use Rattle.std.specs.Prelude.{◌≡◌, ℕ, ◌+◌, ◌<◌, cond, List, [], ◌∷◌, length, is_some}
use Rattle.lines.specs.Lines.{Splits, Trimmed}
use Rattle.repository.specs.Names.{Atoms}
use Rattle.repository.specs.Refusals.{known, refusal}
use Rattle.pane.specs.declared.tally.Tally.{Tally}

-- the first line of a text has a name on it, and `rest` follows the line; 10 is the line feed
pub record First (text name rest : List ℕ) : Type 0 where
  pub some : 0 < length text
  pub line : List ℕ
  pub splits : Splits text 10 line rest
  pub trimmed : Trimmed line name

-- the names on all lines of a text
abbrev pub On : List ℕ → List (List ℕ) → Type 0
On text [] = text ≡ []
On text (name ∷ names) = (rest : List ℕ) × (First text name rest × On rest names)

-- the atoms held after a name was built, or refused
abbrev pub next : Atoms → List ℕ → Atoms
next held name = cond (is_some (refusal held name)) held (known held name)

-- the atoms held after some names in turn, and how many of these are scopes
abbrev pub held_after : Atoms → List (List ℕ) → Atoms
held_after held [] = held
held_after held (name ∷ names) = held_after (next held name) names

abbrev pub scopes_of : Atoms → List (List ℕ) → ℕ
scopes_of held [] = 0
scopes_of held (name ∷ names) = cond (is_some (refusal held name)) 0 1 + scopes_of (next held name) names

-- the names on a text's lines were built in turn, and counted
pub record Listing (text : List ℕ) (held : Atoms) (tally : Tally) (after : Atoms) : Type 0 where
  pub names : List (List ℕ)
  pub on : On text names
  pub read : tally.read ≡ length names
  pub scopes : tally.scopes ≡ scopes_of held names
  pub atoms : after ≡ held_after held names
