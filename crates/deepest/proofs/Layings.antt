-- The laying that takes the highest place for each scope, the last scope first, is worth at least as much as any other.
use Rattle.std.proofs.Common.{◌≡◌, ℕ, zero, suc, ◌+◌, ◌*◌, ◌^◌, ◌<◌, ◌≤◌, true, List, [], ◌∷◌, ◌++◌, length, get_or, take as take-to, drop, Some, None, sym, refl, ap, ◌∙◌, subst, le_trans, le_refl, mul-le-mul_left, arith, drop_of_length-le, drop-cons, pow_mono}
use Rattle.std.proofs.lemmas.List.{take_all, take-take, take_at, get_or-take, get_or_push, length-take-le}
use Rattle.std.specs.List.{IsLastAndRest}
use Rattle.scopes.specs.declared.scope.Scope.{Scope}
use Rattle.scopes.specs.Scopes.{begins}
use Rattle.rankings.specs.Layings.{atoms, blank, FitsAt, HighestFit, Lays}
use Rattle.deepest.specs.Worths.{worth}

below_zero : {A : Type 0} (n : ℕ) → n < 0 → A
below_zero n h = absurd (omega arith)

-- where a laying puts the scope at k
pub place : (stack : List Scope) (from : ℕ) (path : List Scope) (qs : List ℕ) (k : ℕ) → Lays stack from path qs → k < length path
    → (from ≤ get_or qs k 0) × FitsAt (get_or path k blank) stack (get_or qs k 0)
place stack from [] qs k l h = below_zero k h
place stack from (s ∷ path) [] k l h = absurd l
place stack from (s ∷ path) (q ∷ qs) zero l h = (l.0, l.1)
place stack from (s ∷ path) (q ∷ qs) (suc k) l h =
    let p = place stack (suc q) path qs k l.2 (omega arith) in
    let c : from ≤ get_or qs k 0 = omega (arith, p.0, l.0) in
    (c, p.1)

-- and the next one above it
pub rise : (stack : List Scope) (from : ℕ) (path : List Scope) (qs : List ℕ) (k : ℕ) → Lays stack from path qs → suc k < length path
    → get_or qs k 0 < get_or qs (suc k) 0
rise stack from [] qs k l h = below_zero (suc k) h
rise stack from (s ∷ path) [] k l h = absurd l
rise stack from (s ∷ path) (q ∷ qs) zero l h = (place stack (suc q) path qs 0 l.2 (omega arith)).0
rise stack from (s ∷ path) (q ∷ qs) (suc k) l h = rise stack (suc q) path qs k l.2 (omega arith)

-- the part of its worth from k on
pub worth_at : (stack : List Scope) (from : ℕ) (path : List Scope) (qs : List ℕ) (k : ℕ) → Lays stack from path qs → k < length path
    → worth (drop k path) (drop k qs) ≡ atoms (get_or path k blank) * 2 ^ (4 * get_or qs k 0) + worth (drop (suc k) path) (drop (suc k) qs)
worth_at stack from [] qs k l h = below_zero k h
worth_at stack from (s ∷ path) [] k l h = absurd l
worth_at stack from (s ∷ path) (q ∷ qs) zero l h = refl
worth_at stack from (s ∷ path) (q ∷ qs) (suc k) l h = worth_at stack (suc q) path qs k l.2 (omega arith)

pub lays_lower : (stack : List Scope) (a b : ℕ) (path : List Scope) (qs : List ℕ) → a ≤ b → Lays stack b path qs → Lays stack a path qs
lays_lower stack a b [] [] h l = l
lays_lower stack a b [] (q ∷ qs) h l = l
lays_lower stack a b (s ∷ path) [] h l = l
lays_lower stack a b (s ∷ path) (q ∷ qs) h l = (le_trans h l.0, l.1, l.2)

-- a laying has room on the stack
pub lays_room : (stack : List Scope) (from : ℕ) (path : List Scope) (qs : List ℕ) → Lays stack from path qs → from ≤ length stack → length path + from ≤ length stack
lays_room stack from [] qs l h = omega arith
lays_room stack from (s ∷ path) [] l h = absurd l
lays_room stack from (s ∷ path) (q ∷ qs) l h = let r = lays_room stack (suc q) path qs l.2 l.1.within in omega (arith, l.0)

-- How far the search down has come: the scopes from k on are laid at gs, at i and above. No laying is worth more from k on, and in
-- each the scope before k lies below i.
pub record Greedy (path stack : List Scope) (i k : ℕ) (gs : List ℕ) : Type 0 where
  pub within : k ≤ length path
  pub low : i ≤ length stack
  pub laid : Lays stack i (drop k path) gs
  pub most : (qs : List ℕ) → Lays stack 0 path qs → worth (drop k path) (drop k qs) ≤ worth (drop k path) gs
  pub under : (qs : List ℕ) (j : ℕ) → Lays stack 0 path qs → k ≡ suc j → get_or qs j 0 < i

nothing : (path : List Scope) → drop (length path) path ≡ []
nothing path = drop_of_length-le path (le_refl (length path))

pub start : (path stack : List Scope) → Greedy path stack (length stack) (length path) []
start path stack = record {
  within = le_refl (length path);
  low = le_refl (length stack);
  laid = subst (λ (ps : List Scope). Lays stack (length stack) ps []) (sym (nothing path)) tt;
  most = λ qs l. subst (λ (ps : List Scope). worth ps (drop (length path) qs) ≤ worth ps []) (sym (nothing path)) (le_refl 0);
  under = λ qs j l e. let h : j < length path = omega arith in (place stack 0 path qs j l h).1.within;
}

-- the scope before k takes the highest position below i that it fits
take : (path stack : List Scope) (i j q : ℕ) (gs : List ℕ) → Greedy path stack i (suc j) gs → q < i → FitsAt (get_or path j blank) stack q
    → ((m : ℕ) → m < i → FitsAt (get_or path j blank) stack m → m ≤ q) → Greedy path stack q j (q ∷ gs)
take path stack i j q gs g lt fit top =
    let n = atoms (get_or path j blank) in
    let h : j < length path = g.within in
    let cut : drop j path ≡ get_or path j blank ∷ drop (suc j) path = drop-cons path j blank h in
    record {
      within = omega arith;
      low = omega (arith, g.low);
      laid = subst (λ (ps : List Scope). Lays stack q ps (q ∷ gs)) (sym cut) (le_refl q, fit, lays_lower stack (suc q) i (drop (suc j) path) gs lt g.laid);
      most = λ qs l.
          let e = worth_at stack 0 path qs j l h in
          let low : get_or qs j 0 ≤ q = top (get_or qs j 0) (g.under qs j l refl) (place stack 0 path qs j l h).1 in
          let f : 4 * get_or qs j 0 ≤ 4 * q = omega arith in
          let m : n * 2 ^ (4 * get_or qs j 0) ≤ n * 2 ^ (4 * q) = mul-le-mul_left n (pow_mono f) in
          let b = g.most qs l in
          let w : worth (drop j path) (q ∷ gs) ≡ n * 2 ^ (4 * q) + worth (drop (suc j) path) gs = ap (λ (ps : List Scope). worth ps (q ∷ gs)) cut in
          omega arith;
      under = λ qs k l e.
          let low : get_or qs j 0 ≤ q = top (get_or qs j 0) (g.under qs j l refl) (place stack 0 path qs j l h).1 in
          let r : get_or qs k 0 < get_or qs j 0 = subst (λ (m : ℕ). get_or qs k 0 < get_or qs m 0) (sym e) (rise stack 0 path qs k l (subst (λ (m : ℕ). m < length path) e h)) in
          omega arith;
    }

-- the search as the loop has it: what is left of the path, and the stack below what is laid
pub record Search (path stack left below : List Scope) (gs : List ℕ) : Type 0 where
  pub left_part : left ≡ take-to (length left) path
  pub below_part : below ≡ take-to (length below) stack
  pub greedy : Greedy path stack (length below) (length left) gs

pub search_start : (path stack : List Scope) → Search path stack path stack []
search_start path stack = record {
  left_part = sym (take_all (length path) path (le_refl (length path)));
  below_part = sym (take_all (length stack) stack (le_refl (length stack)));
  greedy = start path stack;
}

-- a scope fits the part of a stack below i where it fits the stack there
fits_part : (s : Scope) (stack below : List Scope) (m : ℕ) → below ≡ take-to (length below) stack → length below ≤ length stack → FitsAt s below m → FitsAt s stack m
fits_part s stack below m e h f =
    let lt : m < length below = f.within in
    record {
      within = omega arith;
      prefix = subst (λ (t : Scope). begins s t ≡ true) (ap (λ (ys : List Scope). get_or ys m blank) e ∙ get_or-take (length below) stack m blank lt) f.prefix;
    }

fits_whole : (s : Scope) (stack below : List Scope) (m : ℕ) → below ≡ take-to (length below) stack → m < length below → FitsAt s stack m → FitsAt s below m
fits_whole s stack below m e lt f = record {
  within = lt;
  prefix = subst (λ (t : Scope). begins s t ≡ true) (sym (ap (λ (ys : List Scope). get_or ys m blank) e ∙ get_or-take (length below) stack m blank lt)) f.prefix;
}

-- the last of the scopes that are left is the path's
last_left : (path left rest : List Scope) (s : Scope) → left ≡ take-to (length left) path → left ≡ rest ++ s ∷ [] → length rest + 1 ≡ length left → s ≡ get_or path (length rest) blank
last_left path left rest s e f n =
    let lt : length rest < length left = omega arith in
    sym (get_or_push rest s blank (length rest) refl)
    ∙ ap (λ (ys : List Scope). get_or ys (length rest) blank) (sym f ∙ e)
    ∙ get_or-take (length left) path (length rest) blank lt

-- one more, where the last scope that is left has its highest fit
pub search_taken : (path stack left below : List Scope) (gs : List ℕ) (s : Scope) (rest : List Scope) (q : ℕ)
    → Search path stack left below gs → IsLastAndRest left s rest → HighestFit s below (Some q) → Search path stack rest (take-to q below) (q ∷ gs)
search_taken path stack left below gs s rest q h l f =
    let j = length rest in
    let i = length below in
    let e : s ≡ get_or path j blank = last_left path left rest s h.left_part l.0 l.1 in
    let k : length left ≡ suc j = omega (arith, l.1) in
    let g : Greedy path stack i (suc j) gs = subst (λ (m : ℕ). Greedy path stack i m gs) k h.greedy in
    let lt : q < i = f.0.within in
    let short : length (take-to q below) ≡ q = length-take-le q below (omega arith) in
    let fit : FitsAt (get_or path j blank) stack q = subst (λ (t : Scope). FitsAt t stack q) e (fits_part s stack below q h.below_part g.low f.0) in
    record {
      left_part = sym (take_at rest (s ∷ []) j refl) ∙ ap (take-to j) (sym l.0 ∙ h.left_part) ∙ take-take j (length left) path (omega (arith, l.1));
      below_part =
          rw short (ap (take-to q) h.below_part ∙ take-take q i stack (omega arith));
      greedy =
          rw short (take path stack i j q gs g lt fit
          (λ m b at. f.1 m (fits_whole s stack below m h.below_part b (subst (λ (t : Scope). FitsAt t stack m) (sym e) at))));
    }

-- what it adds to what is laid
pub search_more : (path stack left below : List Scope) (gs : List ℕ) (s : Scope) (rest : List Scope)
    → Search path stack left below gs → IsLastAndRest left s rest → drop (length rest) path ≡ s ∷ drop (length left) path
search_more path stack left below gs s rest h l =
    let lt : length rest < length path = omega (arith, l.1, h.greedy.within) in
    let k : suc (length rest) ≡ length left = omega (arith, l.1) in
    drop-cons path (length rest) blank lt
    ∙ ap (λ (t : Scope). t ∷ drop (suc (length rest)) path) (sym (last_left path left rest s h.left_part l.0 l.1))
    ∙ ap (λ (m : ℕ). s ∷ drop m path) k

-- the last scope that is left fits nowhere
pub search_missing : (path stack left below : List Scope) (gs : List ℕ) (s : Scope) (rest : List Scope)
    → Search path stack left below gs → IsLastAndRest left s rest → HighestFit s below None → (qs : List ℕ) → Lays stack 0 path qs → ⊥
search_missing path stack left below gs s rest h l f qs lays =
    let j = length rest in
    let k : length left ≡ suc j = omega (arith, l.1) in
    let lt : j < length path = omega (arith, l.1, h.greedy.within) in
    let e : get_or path j blank ≡ s = sym (last_left path left rest s h.left_part l.0 l.1) in
    let under : get_or qs j 0 < length below = h.greedy.under qs j lays k in
    f (get_or qs j 0) (fits_whole s stack below (get_or qs j 0) h.below_part under
    (subst (λ (t : Scope). FitsAt t stack (get_or qs j 0)) e (place stack 0 path qs j lays lt).1))

-- all scopes are laid
pub search_whole : (path stack left below : List Scope) (gs : List ℕ) → length left ≡ 0 → Search path stack left below gs
    → Lays stack 0 path gs × ((qs : List ℕ) → Lays stack 0 path qs → worth path qs ≤ worth path gs)
search_whole path stack left below gs e h =
    let z : Greedy path stack (length below) 0 gs = subst (λ (m : ℕ). Greedy path stack (length below) m gs) e h.greedy in
    let b : 0 ≤ length below = omega arith in
    (lays_lower stack 0 (length below) path gs b z.laid, z.most)
