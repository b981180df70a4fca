-- What counts and tables stand for: a list of atoms, by number. What lies past the counts is no part of it.
use Rattle.std.specs.Prelude.{◌≡◌, ℕ, ◌-◌, ◌≤◌, Bool, ◌&&◌, List, [], ◌∷◌, length, take, drop, ◌==◌, nat_le}
use Rattle.repository.specs.declared.tables.Counts.{Counts}
use Rattle.repository.specs.declared.tables.AtomTables.{AtomTables}
use Rattle.repository.specs.Names.{Atoms}

-- a text from `from` on, cut at the ends
abbrev pub cuts : ℕ → List ℕ → List ℕ → Atoms
cuts from [] text = []
cuts from (e ∷ es) text = take (e - from) (drop from text) ∷ cuts e es text

-- the atoms held
abbrev pub held_by : Counts → AtomTables → Atoms
held_by c t = cuts 0 (take c.atoms t.ends) t.text

-- the ends rise from `from`, and the last is `top`
abbrev pub Rising : ℕ → List ℕ → ℕ → Type 0
Rising from [] top = from ≡ top
Rising from (e ∷ es) top = (from ≤ e) × Rising e es top

-- whether they do
abbrev pub rises : ℕ → List ℕ → ℕ → Bool
rises from [] top = from == top
rises from (e ∷ es) top = nat_le from e && rises e es top

-- the counts fit the tables
pub record Sound (c : Counts) (t : AtomTables) : Type 0 where
  pub few : c.atoms ≤ 4096
  pub short : c.bytes ≤ 65536
  pub rising : Rising 0 (take c.atoms t.ends) c.bytes
  pub places : length t.ends ≡ 4096
  pub room : length t.text ≡ 65536

-- for whoever takes counts back: below the counts c the tables u hold what t held
pub record Front (c : Counts) (t u : AtomTables) : Type 0 where
  pub ends : take c.atoms u.ends ≡ take c.atoms t.ends
  pub text : take c.bytes u.text ≡ take c.bytes t.text

-- d counts no less than c
pub record Grows (c d : Counts) : Type 0 where
  pub atoms : c.atoms ≤ d.atoms
  pub bytes : c.bytes ≤ d.bytes

-- d and u fit each other, and below the counts c they hold what c and t held
pub record Extends (c : Counts) (t : AtomTables) (d : Counts) (u : AtomTables) : Type 0 where
  pub sound : Sound d u
  pub front : Front c t u
  pub grows : Grows c d
