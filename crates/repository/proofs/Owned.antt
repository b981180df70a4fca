-- The facts of a repository as its ghost fields have them, and as the calls below ask them.
use Rattle.std.proofs.Common.{◌≡◌, ℕ, true, leb, List, [], ◌∷◌, take, sym, arith}
use Rattle.std.proofs.lemmas.List.{append-nil}
use Rattle.std.proofs.lemmas.Bool.{eqb-true, eq-eqb, leb-true, le-leb, and_parts, and_from}
use Rattle.repository.specs.declared.scope_repository.ScopeRepository.{ScopeRepository}
use Rattle.repository.specs.declared.tables.Counts.{Counts}
use Rattle.repository.specs.declared.tables.AtomTables.{AtomTables}
use Rattle.repository.specs.Tables.{Rising, rises, Sound}
use Rattle.repository.specs.Held.{atoms_of}
use Rattle.repository.specs.Laws.{Later}
use Rattle.repository.proofs.Ends.{held_length, held_total}

rising_from : (from : ℕ) (es : List ℕ) (top : ℕ) → rises from es top ≡ true → Rising from es top
rising_from from [] top h = eqb-true from top h
rising_from from (e ∷ es) top h = let b = and_parts (leb from e) (rises e es top) h in (leb-true from e b.0, rising_from e es top b.1)

rises_from : (from : ℕ) (es : List ℕ) (top : ℕ) → Rising from es top → rises from es top ≡ true
rises_from from [] top h = eq-eqb from top h
rises_from from (e ∷ es) top h = and_from (leb from e) (rises e es top) (le-leb from e h.0) (rises_from e es top h.1)

pub sound_in : (r : ScopeRepository) → Sound r.counts r.tables
sound_in r = record { few = r.few; short = r.short; rising = rising_from 0 (take r.counts.atoms r.tables.ends) r.counts.bytes r.rising; places = r.places; room = r.room }

pub rises_in : (c : Counts) (t : AtomTables) → Sound c t → rises 0 (take c.atoms t.ends) c.bytes ≡ true
rises_in c t s = rises_from 0 (take c.atoms t.ends) c.bytes s.rising

-- a repository is a later one of itself
pub now_later : (r : ScopeRepository) → Later (atoms_of r) (atoms_of r)
now_later r = record {
  more = [];
  begins = sym (append-nil (atoms_of r));
  few = omega (arith, held_length r.counts r.tables (sound_in r), r.few);
  short = omega (arith, held_total r.counts r.tables (sound_in r), r.short);
}

pub ruleset owned = (sound_in, rises_in)
