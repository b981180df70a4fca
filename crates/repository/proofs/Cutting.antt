-- Names cut at their dots, and the dots at their end.
use Rattle.std.specs.Slice.Iter as slice
use Rattle.std.proofs.Common.{◌≡◌, ℕ, zero, suc, ◌+◌, ◌<◌, ◌≤◌, Bool, true, false, cond, ◌&&◌, eqb, ltb, List, [], ◌∷◌, ◌++◌, length, get_or, take, drop, sym, refl, ap, ◌∙◌, subst, arith}
use denote.Param.Members.{Mut}
use denote.Ref.{Bor}
use Rattle.std.specs.Fn.{CalledAt}
use Rattle.std.specs.Str.{IsAscii, IsNotAscii}
use Rattle.std.specs.List.{AllByRecursion, enumerate_from, filter, slice_split, onto_first}
use Rattle.std.proofs.lemmas.Iterator.{YieldsList}
use Rattle.std.proofs.lemmas.Iterator.Splits.{YieldsList-from_slice_split}
use Rattle.std.proofs.lemmas.List.{get_or_default, take_more, take-append-drop, append-nil, append_assoc, get_or-drop, length-drop}
use Rattle.std.proofs.lemmas.List.FromFn.{get_or-enumerate_from, length-enumerate_from}
use Rattle.std.proofs.lemmas.List.Splits.{length-slice_split}
use Rattle.std.proofs.lemmas.List.Sums.{length-filter}
use Rattle.std.proofs.lemmas.Bool.{cond-false, ne_eqb, and_left, and_right, and_from, lt-ltb, le-ltb}
use Rattle.repository.specs.Names.{Atoms, ascii, dots, stripped, before, pieces}

-- ---- bytes below 128

pub ascii_if : (bs : List ℕ) → IsAscii bs → ascii bs ≡ true
ascii_if [] h = refl
ascii_if (b ∷ bs) h = and_from (ltb b 128) (ascii bs) (lt-ltb b 128 (h 0)) (ascii_if bs (λ i. h (suc i)))

not_ascii_at : (bs : List ℕ) (i : ℕ) → 128 ≤ get_or bs i 0 → ascii bs ≡ false
not_ascii_at [] i h = absurd (omega arith)
not_ascii_at (b ∷ bs) zero h = and_left (ltb b 128) (ascii bs) (le-ltb b 128 h)
not_ascii_at (b ∷ bs) (suc i) h = and_right (ltb b 128) (ascii bs) (not_ascii_at bs i h)

pub not_ascii_if : (bs : List ℕ) → IsNotAscii bs → ascii bs ≡ false
not_ascii_if bs h = not_ascii_at bs h.0 h.1

-- ---- pieces

-- a list p put in front of the first piece
abbrev pub behind : List ℕ → Atoms → Atoms
behind p [] = p ∷ []
behind p (q ∷ qs) = (p ++ q) ∷ qs

some_before : (b : ℕ) (ps : Atoms) → 0 < length (before b ps)
some_before b [] = omega arith
some_before b (p ∷ ps) = omega arith

pub some_pieces : (bs : List ℕ) → 0 < length (pieces bs)
some_pieces [] = omega arith
some_pieces (b ∷ bs) = elim (eqb b 46) as (λ t. 0 < length (cond t ([] ∷ pieces bs) (before b (pieces bs)))) [ true ↦ omega arith | false ↦ some_before b (pieces bs) ]

pub behind_nil : (ps : Atoms) → 0 < length ps → behind [] ps ≡ ps
behind_nil [] h = absurd (omega arith)
behind_nil (p ∷ ps) h = refl

-- std's words for the same
onto_before : (b : ℕ) (ps : Atoms) → onto_first b ps ≡ before b ps
onto_before b [] = refl
onto_before b (p ∷ ps) = refl

pub split_pieces : (bs : List ℕ) → slice_split (λ b. eqb b 46) bs ≡ pieces bs
split_pieces [] = refl
split_pieces (b ∷ bs) =
    ap (λ ps. cond (eqb b 46) ([] ∷ ps) (onto_first b ps)) (split_pieces bs) ∙ ap (cond (eqb b 46) ([] ∷ pieces bs)) (onto_before b (pieces bs))

-- one piece more than dots
pub dots_between : (bs : List ℕ) → length (filter (λ b. eqb b 46) bs) + 1 ≡ length (pieces bs)
dots_between bs =
    ap (λ n. n + 1) (length-filter (λ b. eqb b 46) bs) ∙ sym (length-slice_split (λ b. eqb b 46) bs) ∙ ap length (split_pieces bs)

-- a text that is split at its dots gives its pieces
pub YieldsList-from_pieces : {F : Type 0} {s : _} (g : Mut F (Bor ℕ × Unit {0}) Bool) {f : F} (text : List ℕ) → slice.split_rest s ≡ text → slice.split_done s ≡ false → slice.split_callee s ≡ f → ((x : ℕ) (b : Bool) (q : F) → CalledAt g f x b q → (q ≡ f) × (b ≡ eqb x 46)) → YieldsList (slice.split_steps g) (λ x. x.now) s (pieces text)
YieldsList-from_pieces {s = s} g text e d k h =
    subst (YieldsList (slice.split_steps g) (λ x. x.now) s) (split_pieces text) (YieldsList-from_slice_split g (λ b. eqb b 46) text e d k h)

-- a turn of a `for` over the pieces ps: it has come to the n-th
abbrev pub ComeTo : Atoms → ℕ → List ℕ → Type 0
ComeTo ps n x = (n < length ps) × (x ≡ get_or ps n [])

pub come_to : (ps : Atoms) (n : ℕ) (x : List ℕ) → (n < length ps) × (x ≡ get_or ps n x) → ComeTo ps n x
come_to ps n x h = (h.0, h.1 ∙ get_or_default ps n x [] h.0)

-- the same with their indices
pub numbered : (ps : Atoms) (n i : ℕ) (x : List ℕ) → (n < length (enumerate_from 0 ps)) × ((i, x) ≡ get_or (enumerate_from 0 ps) n (i, x)) → (i ≡ n) × ComeTo ps n x
numbered ps n i x h =
    let lt : n < length ps = omega (arith, h.0, length-enumerate_from 0 ps) in
    let e : (i, x) ≡ (0 + n, get_or ps n x) = h.1 ∙ get_or-enumerate_from 0 ps n (i, x) lt in
    (omega (arith, ap (λ (p : ℕ × List ℕ). p.0) e), come_to ps n x (lt, ap (λ (p : ℕ × List ℕ). p.1) e))

-- ---- the dots at the end

dots_push : (xs : List ℕ) → dots (xs ++ 46 ∷ []) ≡ dots xs
dots_push [] = refl
dots_push (x ∷ xs) = ap (λ t. eqb x 46 && t) (dots_push xs)

pub strip_dot : (xs : List ℕ) → stripped (xs ++ 46 ∷ []) ≡ stripped xs
strip_dot [] = refl
strip_dot (x ∷ xs) = (λ i. cond (eqb x 46 && dots_push xs i) [] (x ∷ strip_dot xs i))

no_dots : (xs : List ℕ) (b : ℕ) → (b ≡ 46 → ⊥) → dots (xs ++ b ∷ []) ≡ false
no_dots [] b ne = and_left (eqb b 46) true (ne_eqb b 46 ne)
no_dots (x ∷ xs) b ne = elim (eqb x 46) as (λ t. (t && dots (xs ++ b ∷ [])) ≡ false) [ true ↦ no_dots xs b ne | false ↦ refl ]

pub strip_other : (xs : List ℕ) (b : ℕ) → (b ≡ 46 → ⊥) → stripped (xs ++ b ∷ []) ≡ xs ++ b ∷ []
strip_other [] b ne = cond-false (dots (b ∷ [])) [] (b ∷ []) (no_dots [] b ne)
strip_other (x ∷ xs) b ne = cond-false (dots (x ∷ (xs ++ b ∷ []))) [] (x ∷ stripped (xs ++ b ∷ [])) (no_dots (x ∷ xs) b ne) ∙ ap (λ l. x ∷ l) (strip_other xs b ne)

-- each is a dot
abbrev pub Dots : List ℕ → Type 0
Dots e = AllByRecursion (λ b. b ≡ 46) e

dots_from : (xs : List ℕ) → ((k : ℕ) → k < length xs → get_or xs k 0 ≡ 46) → Dots xs
dots_from [] h = tt
dots_from (x ∷ xs) h = (h 0 (omega arith), dots_from xs (λ k lt. h (suc k) (omega arith)))

pub strip_dots : (xs e : List ℕ) → Dots e → stripped (xs ++ e) ≡ stripped xs
strip_dots xs [] h = ap stripped (append-nil xs)
strip_dots xs (b ∷ e) h =
    ap stripped (sym (append_assoc xs (b ∷ []) e)) ∙ strip_dots (xs ++ b ∷ []) e h.1 ∙ ap (λ x. stripped (xs ++ x ∷ [])) h.0 ∙ strip_dot xs

-- where dots alone stand from n on
pub strip_rest : (xs : List ℕ) (n : ℕ) → n ≤ length xs → ((k : ℕ) → n ≤ k → k < length xs → get_or xs k 0 ≡ 46) → stripped xs ≡ stripped (take n xs)
strip_rest xs n le h =
    let rest : Dots (drop n xs) = dots_from (drop n xs) (λ k lt. get_or-drop n xs k 0 ∙ h (n + k) (omega arith) (omega (arith, length-drop n xs))) in
    ap stripped (sym (take-append-drop n xs)) ∙ strip_dots (take n xs) (drop n xs) rest

-- and no dot at its place
pub strip_last : (xs : List ℕ) (n : ℕ) → n < length xs → (get_or xs n 0 ≡ 46 → ⊥) → ((k : ℕ) → n + 1 ≤ k → k < length xs → get_or xs k 0 ≡ 46) → take (n + 1) xs ≡ stripped xs
strip_last xs n lt ne h =
    sym (strip_rest xs (n + 1) (omega arith) h ∙ ap stripped (take_more xs n 0 lt) ∙ strip_other (take n xs) (get_or xs n 0) ne ∙ sym (take_more xs n 0 lt))
