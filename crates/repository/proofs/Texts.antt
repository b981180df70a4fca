-- The text of the atom in each field of a scope.
use Rattle.std.proofs.Common.{◌≡◌, ℕ, zero, suc, ◌+◌, ◌-◌, ◌<◌, ◌≤◌, true, false, ◌&&◌, leb, List, [], ◌∷◌, length, get_or, drop, sym, ap, ◌∙◌, arith}
use Rattle.std.proofs.lemmas.List.{at_drop_more, get_or-map, length-map}
use Rattle.std.proofs.lemmas.Bool.{and_parts, and_left, leb-true, le-leb, lt-leb}
use Rattle.scopes.specs.declared.scope.Scope.{Scope}
use Rattle.scopes.specs.Scopes.{fields_in, atoms_in}
use Rattle.scopes.proofs.Used.{field_at}
use Rattle.repository.specs.Names.{Atoms}
use Rattle.repository.specs.Atoms.{total}
use Rattle.repository.specs.Writes.{given, texts}

pub total_at : (xs : Atoms) (n : ℕ) → length (get_or xs n []) ≤ total xs
total_at [] n = omega arith
total_at (x ∷ xs) zero = omega arith
total_at (x ∷ xs) (suc n) = omega (arith, total_at xs n)

given_at : (held : Atoms) (fs : List ℕ) (i : ℕ) → i < length fs → given held fs ≡ true → get_or fs i 0 ≤ length held
given_at held [] i lt g = absurd (omega arith)
given_at held (f ∷ fs) zero lt g = leb-true f (length held) (and_parts (leb f (length held)) (given held fs) g).0
given_at held (f ∷ fs) (suc i) lt g = given_at held fs i (omega arith) (and_parts (leb f (length held)) (given held fs) g).1

pub texts_length : (held : Atoms) (s : Scope) → length (texts held (atoms_in s)) ≡ length (atoms_in s)
texts_length held s = length-map (atoms_in s) (λ f. get_or held (f - 1) [])

-- the atom of an index, by its field as the code reads it
module _ (held : Atoms) (s : Scope) (i f : ℕ) (lt : i < length (atoms_in s)) (is : f ≡ get_or (fields_in s) i 0) where
  field : f ≡ get_or (atoms_in s) i 0
  field = is ∙ (field_at s i lt).0

  pub field_some : 1 ≤ f
  field_some = omega (arith, (field_at s i lt).1, field)

  pub text_at : get_or (texts held (atoms_in s)) i [] ≡ get_or held (f - 1) []
  text_at = get_or-map (λ x. get_or held (x - 1) []) (atoms_in s) i 0 [] lt ∙ ap (λ x. get_or held (x - 1) []) (sym field)

  here : given held (drop i (atoms_in s)) ≡ (leb f (length held) && given held (drop (i + 1) (atoms_in s)))
  here = at_drop_more (given held) (atoms_in s) i 0 lt ∙ ap (λ x. leb x (length held) && given held (drop (i + 1) (atoms_in s))) (sym field)

  pub unknown : length held < f → given held (drop i (atoms_in s)) ≡ false
  unknown more = here ∙ and_left _ _ (lt-leb f (length held) more)

  pub known_on : f ≤ length held → given held (drop (i + 1) (atoms_in s)) ≡ given held (drop i (atoms_in s))
  known_on le = sym (here ∙ ap (λ t. t && given held (drop (i + 1) (atoms_in s))) (le-leb f (length held) le))

  pub known_all : given held (atoms_in s) ≡ true → f ≤ length held
  known_all g = omega (arith, given_at held (atoms_in s) i lt g, field)

-- what the code reads at each field
pub ruleset reads = (texts_length, field_some, text_at, unknown, known_on, known_all)
