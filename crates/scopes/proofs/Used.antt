-- The used fields among all.
use Rattle.std.proofs.Common.{◌≡◌, ℕ, zero, suc, ◌<◌, true, false, eqb, List, [], ◌∷◌, length, get_or, refl, ⊎_elim, arith}
use Rattle.std.proofs.lemmas.Bool.{eqb-false, cases_Bool}
use Rattle.scopes.specs.declared.scope.Scope.{Scope}
use Rattle.scopes.specs.Fields.{fields, used}
use Rattle.scopes.specs.Scopes.{fields_in, atoms_in}

-- a used field stands at its index among all, and is not 0
used_at : (fs : List ℕ) (i : ℕ) → i < length (used fs) → (get_or fs i 0 ≡ get_or (used fs) i 0) × (0 < get_or (used fs) i 0)
used_at [] i lt = absurd (omega arith)
used_at (f ∷ fs) zero lt =
    ⊎_elim
    (λ (e : eqb f 0 ≡ true). absurd (let none : 0 < 0 = simp e at lt in omega arith))
    (λ (e : eqb f 0 ≡ false). simp e (refl, (let ne : f ≡ 0 → ⊥ = eqb-false f 0 e in omega arith)))
    (cases_Bool (eqb f 0))
used_at (f ∷ fs) (suc i) lt =
    ⊎_elim
    (λ (e : eqb f 0 ≡ true). absurd (let none : suc i < 0 = simp e at lt in omega arith))
    (λ (e : eqb f 0 ≡ false). simp e (used_at fs i (let less : suc i < suc (length (used fs)) = simp e at lt in omega arith)))
    (cases_Bool (eqb f 0))

-- the same of a scope's atoms
pub field_at : (s : Scope) (i : ℕ) → i < length (atoms_in s) → (get_or (fields_in s) i 0 ≡ get_or (atoms_in s) i 0) × (0 < get_or (atoms_in s) i 0)
unfolding atoms_in fields_in
field_at s i lt = used_at (fields s.a s.b) i lt
