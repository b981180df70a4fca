-- Taking the lowest position for each scope in turn gives the lowest laying, and fails only where there is none.
use Rattle.std.specs.Prelude.{◌≡◌, ℕ, zero, suc, ◌<◌, ◌≤◌, Bool, true, false, cond, List, [], ◌∷◌, length, get_or, drop, Some, None, Option, slice_index, slice_index_or, refl}
use Rattle.std.proofs.Common.{sym, ap, ◌∙◌, subst, true≢false, inl, inr, le_refl, le_trans, le_antisymm, eq-or-lt_of_le, arith, length-drop, drop-cons}
use Rattle.std.proofs.lemmas.List.{ext_get_or}
use Rattle.scopes.specs.declared.scope.Scope.{Scope}
use Rattle.scopes.specs.Scopes.{begins}
use Rattle.rankings.specs.Layings.{blank, Lays, Layable}
use Rattle.earliest.specs.Lowest.{Lowest, before, places, Placed, PlacesLaw}

-- a laying from a position on, below which no other from there lies
record From (path stack : List Scope) (i : ℕ) (qs : List ℕ) : Type 0 where
  lays : Lays stack i path qs
  least : (rs : List ℕ) → Lays stack i path rs → (k : ℕ) → slice_index qs k ≤ slice_index rs k

abbrev Found : List Scope → List Scope → ℕ → Option (List ℕ) → Type 0
Found path stack i None = (rs : List ℕ) → Lays stack i path rs → ⊥
Found path stack i (Some qs) = From path stack i qs

-- ---- layings from one position or another
lays_lower : (path stack : List Scope) (i j : ℕ) (qs : List ℕ) → j ≤ i → Lays stack i path qs → Lays stack j path qs
lays_lower [] stack i j [] h l = tt
lays_lower [] stack i j (q ∷ qs) h l = absurd l
lays_lower (s ∷ path) stack i j [] h l = absurd l
lays_lower (s ∷ path) stack i j (q ∷ qs) h l = (le_trans h l.0, l.1, l.2)

-- where the first scope does not fit at i, a laying from i is one from above it
lays_past : (s : Scope) (path stack : List Scope) (i : ℕ) (qs : List ℕ) → begins s (slice_index_or stack i blank) ≡ false → Lays stack i (s ∷ path) qs → Lays stack (suc i) (s ∷ path) qs
lays_past s path stack i [] e l = absurd l
lays_past s path stack i (q ∷ qs) e l =
    elim (eq-or-lt_of_le l.0) [
      | inl f ↦ absurd (true≢false (sym (subst (λ (z : ℕ). begins s (slice_index_or stack z blank) ≡ true) (sym f) l.1.prefix) ∙ e))
      | inr g ↦ (g, l.1, l.2)
    ]

-- past the end nothing is laid
lays_none : (s : Scope) (path stack : List Scope) (i : ℕ) (qs : List ℕ) → length stack ≤ i → Lays stack i (s ∷ path) qs → ⊥
lays_none s path stack i [] h l = l
lays_none s path stack i (q ∷ qs) h l = omega (arith, l.0, l.1.within)

-- ---- one scope more in front
fit_here : (s : Scope) (path stack : List Scope) (i : ℕ) (o : Option (List ℕ)) → i < length stack → begins s (slice_index_or stack i blank) ≡ true → Found path stack (suc i) o → Found (s ∷ path) stack i (before i o)
fit_here s path stack i None h e f = none
  where
    none : (rs : List ℕ) → Lays stack i (s ∷ path) rs → ⊥
    none [] l = l
    none (r ∷ rs) l = f rs (lays_lower path stack (suc r) (suc i) rs (omega (arith, l.0)) l.2)
fit_here s path stack i (Some qs) h e f = record { lays = (le_refl i, record { within = h; prefix = e }, f.lays); least = least }
  where
    least : (rs : List ℕ) → Lays stack i (s ∷ path) rs → (k : ℕ) → slice_index (i ∷ qs) k ≤ slice_index rs k
    least [] l k = absurd l
    least (r ∷ rs) l zero = l.0
    least (r ∷ rs) l (suc k) = f.least rs (lays_lower path stack (suc r) (suc i) rs (omega (arith, l.0)) l.2) k

fit_later : (s : Scope) (path stack : List Scope) (i : ℕ) (o : Option (List ℕ)) → begins s (slice_index_or stack i blank) ≡ false → Found (s ∷ path) stack (suc i) o → Found (s ∷ path) stack i o
fit_later s path stack i None e f = λ (rs : List ℕ) (l : Lays stack i (s ∷ path) rs). f rs (lays_past s path stack i rs e l)
fit_later s path stack i (Some qs) e f =
    record {
      lays = lays_lower (s ∷ path) stack (suc i) i qs (omega arith) f.lays;
      least = λ (rs : List ℕ) (l : Lays stack i (s ∷ path) rs) (k : ℕ). f.least rs (lays_past s path stack i rs e l) k;
    }

done : (stack : List Scope) (i : ℕ) → From [] stack i []
done stack i = record { lays = tt; least = λ (rs : List ℕ) (l : Lays stack i [] rs) (k : ℕ). least rs l k }
  where
    least : (rs : List ℕ) → Lays stack i [] rs → (k : ℕ) → 0 ≤ slice_index rs k
    least rs l k = omega arith

ended : (xs : List Scope) (n : ℕ) → drop n xs ≡ [] → length xs ≤ n
ended xs n f = omega (arith, sym (length-drop n xs) ∙ ap length f)

inside : (xs ts : List Scope) (t : Scope) (n : ℕ) → drop n xs ≡ t ∷ ts → n < length xs
inside xs ts t n f = omega (arith, sym (length-drop n xs) ∙ ap length f)

-- `ts` is what is left of the stack from i on
found : (path ts stack : List Scope) (i : ℕ) → drop i stack ≡ ts → Found path stack i (places path ts i)
found [] ts stack i e = done stack i
found (s ∷ path) [] stack i e = λ (rs : List ℕ) (l : Lays stack i (s ∷ path) rs). lays_none s path stack i rs (ended stack i e) l
found (s ∷ path) (t ∷ ts) stack i e = go (begins s t) refl (found path ts stack (suc i) tail) (found (s ∷ path) ts stack (suc i) tail)
  where
    h : i < length stack
    h = inside stack ts t i e

    both : get_or stack i blank ∷ drop (suc i) stack ≡ t ∷ ts
    both = sym (drop-cons stack i blank h) ∙ e

    head : get_or stack i blank ≡ t
    head = cc both

    tail : drop (suc i) stack ≡ ts
    tail = cc both

    go : (b : Bool) → begins s t ≡ b → Found path stack (suc i) (places path ts (suc i)) → Found (s ∷ path) stack (suc i) (places (s ∷ path) ts (suc i)) → Found (s ∷ path) stack i (cond b (before i (places path ts (suc i))) (places (s ∷ path) ts (suc i)))
    go true q f g = fit_here s path stack i (places path ts (suc i)) h (ap (begins s) head ∙ q) f
    go false q f g = fit_later s path stack i (places (s ∷ path) ts (suc i)) (ap (begins s) head ∙ q) g

pub places_law : PlacesLaw
places_law path stack = go (places path stack 0) (found path stack stack 0 refl)
  where
    go : (o : Option (List ℕ)) → Found path stack 0 o → Placed path stack o
    go None f = λ (l : Layable path stack). f l.0 l.1
    go (Some qs) f = record { lays = f.lays; least = f.least }

-- ---- there is one lowest laying at most
lays_length : (path stack : List Scope) (i : ℕ) (qs : List ℕ) → Lays stack i path qs → length qs ≡ length path
lays_length [] stack i [] l = refl
lays_length [] stack i (q ∷ qs) l = absurd l
lays_length (s ∷ path) stack i [] l = absurd l
lays_length (s ∷ path) stack i (q ∷ qs) l = ap suc (lays_length path stack (suc q) qs l.2)

pub lowest_one : (path stack : List Scope) (qs rs : List ℕ) → Lowest path stack qs → Lowest path stack rs → qs ≡ rs
lowest_one path stack qs rs a b =
    ext_get_or 0 qs rs (lays_length path stack 0 qs a.lays ∙ sym (lays_length path stack 0 rs b.lays))
    (λ (k : ℕ) (h : k < length qs). le_antisymm (a.least rs b.lays k) (b.least qs a.lays k))
