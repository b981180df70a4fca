-- A turn of a loop that lays a path: the next scope takes the lowest position that it fits from `from` on.
use Rattle.std.proofs.Common.{◌≡◌, ℕ, zero, suc, ◌+◌, ◌<◌, ◌≤◌, Bool, true, false, cond, List, [], ◌∷◌, length, get_or, drop, Some, None, sym, refl, ap, ◌∙◌, true≢false, arith, drop_of_length-le}
use Rattle.std.proofs.lemmas.List.{drop_more, drop-drop}
use Rattle.scopes.specs.declared.scope.Scope.{Scope}
use Rattle.scopes.specs.Scopes.{begins}
use Rattle.rankings.specs.Layings.{FitsAt, LowestFit}
use Rattle.earliest.specs.Lowest.{before, places}

-- the next scope, taken apart
pub next_scope : (path : List Scope) (k : ℕ) (s : Scope) → k < length path → s ≡ get_or path k s → drop k path ≡ s ∷ drop (k + 1) path
next_scope path k s h e = drop_more path k s h ∙ ap (λ (t : Scope). t ∷ drop (k + 1) path) (sym e)

-- a scope fits what lies above the first scope, one position lower
fits_up : (s t : Scope) (ts : List Scope) (i : ℕ) → FitsAt s ts i → FitsAt s (t ∷ ts) (suc i)
fits_up s t ts i f = record { within = omega (arith, f.within); prefix = f.prefix }

fits_down : (s t : Scope) (ts : List Scope) (i : ℕ) → FitsAt s (t ∷ ts) (suc i) → FitsAt s ts i
fits_down s t ts i f = record { within = omega (arith, f.within); prefix = f.prefix }

fits_first : (s t : Scope) (ts : List Scope) → begins s t ≡ true → FitsAt s (t ∷ ts) 0
fits_first s t ts e = record { within = omega arith; prefix = e }

lowest_above : (s t : Scope) (ts : List Scope) (q : ℕ) → LowestFit s (t ∷ ts) (Some (suc q)) → LowestFit s ts (Some q)
lowest_above s t ts q f = (fits_down s t ts q f.0, λ i at. let h : suc q ≤ suc i = f.1 (suc i) (fits_up s t ts i at) in omega arith)

-- where its lowest fit is m, the scope is laid there
places_fit : (s : Scope) (path ts : List Scope) (i q m : ℕ) → m ≡ i + q → LowestFit s ts (Some q) → places (s ∷ path) ts i ≡ before m (places path (drop (suc q) ts) (suc m))
places_fit s path [] i q m e f = absurd (omega (arith, f.0.within))
places_fit s path (t ∷ ts) i q m e f = go (begins s t) refl q e f (λ r g l. places_fit s path ts (suc i) r m g l)
  where
    go : (b : Bool) → begins s t ≡ b → (r : ℕ) → m ≡ i + r → LowestFit s (t ∷ ts) (Some r)
        → ((n : ℕ) → m ≡ suc i + n → LowestFit s ts (Some n) → places (s ∷ path) ts (suc i) ≡ before m (places path (drop (suc n) ts) (suc m)))
        → cond b (before i (places path ts (suc i))) (places (s ∷ path) ts (suc i)) ≡ before m (places path (drop (suc r) (t ∷ ts)) (suc m))
    go true h r g l more =
        let low : r ≤ 0 = l.1 0 (fits_first s t ts h) in
        let none : 0 ≡ r = omega arith in
        let same : i ≡ m = omega arith in
        ap (λ (n : ℕ). before n (places path ts (suc n))) same ∙ ap (λ (n : ℕ). before m (places path (drop n ts) (suc m))) none
    go false h zero g l more = absurd (true≢false (sym l.0.prefix ∙ h))
    go false h (suc r) g l more = more r (omega arith) (lowest_above s t ts r l)

places_unfit : (s : Scope) (path ts : List Scope) (i : ℕ) → LowestFit s ts None → places (s ∷ path) ts i ≡ None
places_unfit s path [] i f = refl
places_unfit s path (t ∷ ts) i f = go (begins s t) refl (places_unfit s path ts (suc i) (λ n at. f (suc n) (fits_up s t ts n at)))
  where
    go : (b : Bool) → begins s t ≡ b → places (s ∷ path) ts (suc i) ≡ None → cond b (before i (places path ts (suc i))) (places (s ∷ path) ts (suc i)) ≡ None
    go true h more = absurd (f 0 (fits_first s t ts h))
    go false h more = more

-- the same on what is left of a path and of a stack
pub place_here : (s : Scope) (path left stack : List Scope) (from q : ℕ) → path ≡ s ∷ left → LowestFit s (drop from stack) (Some q)
    → places path (drop from stack) from ≡ before (from + q) (places left (drop (from + q + 1) stack) (from + q + 1))
place_here s path left stack from q e f =
    let m = from + q in
    let one : suc m ≡ m + 1 = omega arith in
    let over : from + suc q ≡ m + 1 = omega arith in
    ap (λ (ys : List Scope). places ys (drop from stack) from) e
    ∙ places_fit s left (drop from stack) from q m refl f
    ∙ ap (λ (n : ℕ). before m (places left (drop (suc q) (drop from stack)) n)) one
    ∙ ap (λ (ys : List Scope). before m (places left ys (m + 1))) (drop-drop (suc q) from stack ∙ ap (λ (n : ℕ). drop n stack) over)

pub place_nowhere : (s : Scope) (path left stack : List Scope) (from : ℕ) → path ≡ s ∷ left → LowestFit s (drop from stack) None
    → places path (drop from stack) from ≡ None
place_nowhere s path left stack from e f = ap (λ (ys : List Scope). places ys (drop from stack) from) e ∙ places_unfit s left (drop from stack) from f

-- the whole path is laid
pub all_laid : (path stack : List Scope) (k i : ℕ) → length path ≤ k → places (drop k path) stack i ≡ Some []
all_laid path stack k i e = ap (λ (ys : List Scope). places ys stack i) (drop_of_length-le path e)
