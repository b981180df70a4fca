-- The test for gaps against what a gap is.
use Rattle.std.proofs.Common.{◌≡◌, ℕ, zero, suc, ◌<◌, true, false, eqb, List, [], ◌∷◌, length, get_or, Decides, sym, refl, ◌∙◌, ⊎_elim, arith}
use Rattle.std.proofs.lemmas.Bool.{eqb-true, eq-eqb, cases_Bool, true≢false}
use Rattle.scopes.specs.Fields.{unused, packed, Gapless}
use Rattle.scopes.proofs.Words.{cond_way}

unused_at : (fs : List ℕ) → unused fs ≡ true → (j : ℕ) → get_or fs j 0 ≡ 0
unused_at [] h j = refl
unused_at (f ∷ fs) h zero = ⊎_elim (λ w. eqb-true f 0 w.0) (λ w. absurd (true≢false (sym w.1))) (cond_way (eqb f 0) (unused fs) false h)
unused_at (f ∷ fs) h (suc j) = ⊎_elim (λ w. unused_at fs w.1 j) (λ w. absurd (true≢false (sym w.1))) (cond_way (eqb f 0) (unused fs) false h)

unused_from : (fs : List ℕ) → ((j : ℕ) → j < length fs → get_or fs j 0 ≡ 0) → unused fs ≡ true
unused_from [] h = refl
unused_from (f ∷ fs) h = simp (eq-eqb f 0 (h 0 (omega arith))) (unused_from fs (λ j lt. h (suc j) (omega arith)))

packed_gapless : (fs : List ℕ) → packed fs ≡ true → Gapless fs
packed_gapless [] h i j lt le z = refl
packed_gapless (f ∷ fs) h i zero lt le z = absurd (omega arith)
packed_gapless (f ∷ fs) h zero (suc j) lt le z =
    ⊎_elim (λ w. unused_at fs w.1 j) (λ w. absurd (true≢false (sym (eq-eqb f 0 z) ∙ w.0))) (cond_way (eqb f 0) (unused fs) (packed fs) h)
packed_gapless (f ∷ fs) h (suc i) (suc j) lt le z =
    ⊎_elim (λ w. unused_at fs w.1 j) (λ w. packed_gapless fs w.1 i j (omega arith) (omega arith) z) (cond_way (eqb f 0) (unused fs) (packed fs) h)

gapless_packed : (fs : List ℕ) → Gapless fs → packed fs ≡ true
gapless_packed [] g = refl
gapless_packed (f ∷ fs) g =
    ⊎_elim
    (λ (e : eqb f 0 ≡ true). simp e (unused_from fs (λ j lt. g 0 (suc j) (omega arith) (omega arith) (eqb-true f 0 e))))
    (λ (e : eqb f 0 ≡ false). simp e (gapless_packed fs (λ i j lt le z. g (suc i) (suc j) (omega arith) (omega arith) z)))
    (cases_Bool (eqb f 0))

pub packed_decides : (fs : List ℕ) → Decides (packed fs) (Gapless fs)
packed_decides fs = (packed_gapless fs, gapless_packed fs)
