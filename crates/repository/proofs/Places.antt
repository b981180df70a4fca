-- Which atoms are held, and where.
use Rattle.std.proofs.Common.{◌≡◌, ℕ, suc, ◌+◌, ◌<◌, ◌≤◌, Bool, true, false, cond, not, ◌||◌, [], ◌∷◌, ◌++◌, length, get_or, take, drop, Some, None, Option, MatchOption, is_some, sym, refl, ap, ◌∙◌, ⊎_elim, arith}
use Rattle.std.specs.Str.{bytes_eq}
use Rattle.std.specs.List.{list_any}
use Rattle.std.proofs.lemmas.List.{length_push, at_drop_more, length-take-le, take_more, append-nil, append_assoc, length-append, length-map, map_more}
use Rattle.std.proofs.lemmas.Slice.Eq.{bytes_eq-Decides}
use Rattle.std.proofs.lemmas.Bool.{cond-true, cond-false, cases_Bool, true≢false, not-true, not-false}
use Rattle.repository.specs.Names.{Atom, Atoms}
use Rattle.repository.specs.Atoms.{has, place, news, total, seen, learned, fields_for}

-- std's words for the same
pub has_any : (xs : Atoms) (a : Atom) → list_any (λ x. bytes_eq x a) xs ≡ has xs a
has_any [] a = refl
has_any (x ∷ xs) a = elim (bytes_eq x a) as (λ t. (t || list_any (λ y. bytes_eq y a) xs) ≡ cond t true (has xs a)) [ true ↦ refl | false ↦ has_any xs a ]

-- ---- what is held

pub has_itself : (xs : Atoms) (a : Atom) → has (xs ++ a ∷ []) a ≡ true
has_itself [] a = cond-true _ _ _ ((bytes_eq-Decides a a).1 refl)
has_itself (x ∷ xs) a = elim (bytes_eq x a) as (λ t. cond t true (has (xs ++ a ∷ []) a) ≡ true) [ true ↦ refl | false ↦ has_itself xs a ]

pub has_append : (xs ys : Atoms) (a : Atom) → has (xs ++ ys) a ≡ cond (has xs a) true (has ys a)
has_append [] ys a = refl
has_append (x ∷ xs) ys a =
    elim (bytes_eq x a) as (λ t. cond t true (has (xs ++ ys) a) ≡ cond (cond t true (has xs a)) true (has ys a)) [ true ↦ refl | false ↦ has_append xs ys a ]

pub has_seen : (held : Atoms) (a : Atom) → has (seen held a) a ≡ true
has_seen held a =
    ⊎_elim
    (λ (e : has held a ≡ true). ap (λ l. has l a) (cond-true (has held a) held (held ++ a ∷ []) e) ∙ e)
    (λ (e : has held a ≡ false). ap (λ l. has l a) (cond-false (has held a) held (held ++ a ∷ []) e) ∙ has_itself held a)
    (cases_Bool (has held a))

-- of two that are the same, both are held or neither
has_same : (xs : Atoms) (x a : Atom) → bytes_eq x a ≡ true → has xs x ≡ has xs a
has_same xs x a e = ap (has xs) ((bytes_eq-Decides x a).0 e)

keep : (t : Bool) → cond t true false ≡ t
keep true = refl
keep false = refl

seen_has : (held : Atoms) (x a : Atom) → has (seen held x) a ≡ cond (has held a) true (bytes_eq x a)
seen_has held x a =
    ⊎_elim
    (λ (e : has held x ≡ true).
    ap (λ l. has l a) (cond-true (has held x) held (held ++ x ∷ []) e)
    ∙ ⊎_elim
    (λ (s : bytes_eq x a ≡ true). let h : has held a ≡ true = sym (has_same held x a s) ∙ e in h ∙ sym (cond-true (has held a) true (bytes_eq x a) h))
    (λ (s : bytes_eq x a ≡ false). sym (ap (λ t. cond (has held a) true t) s ∙ keep (has held a)))
    (cases_Bool (bytes_eq x a)))
    (λ (e : has held x ≡ false).
    ap (λ l. has l a) (cond-false (has held x) held (held ++ x ∷ []) e) ∙ has_append held (x ∷ []) a ∙ ap (λ t. cond (has held a) true t) (keep (bytes_eq x a)))
    (cases_Bool (has held x))

or_more : (x y z : Bool) → cond (cond x true y) true z ≡ cond x true (cond y true z)
or_more true y z = refl
or_more false y z = refl

pub has_learned : (held xs : Atoms) (a : Atom) → has (learned held xs) a ≡ cond (has held a) true (has xs a)
has_learned held [] a = sym (keep (has held a))
has_learned held (x ∷ xs) a =
    has_learned (seen held x) xs a ∙ ap (λ t. cond t true (has xs a)) (seen_has held x a) ∙ or_more (has held a) (bytes_eq x a) (has xs a)

-- ---- numbers

pub place_below : (xs : Atoms) (a : Atom) → has xs a ≡ true → place xs a < length xs
place_below [] a h = absurd (true≢false (sym h))
place_below (x ∷ xs) a h =
    ⊎_elim
    (λ (e : bytes_eq x a ≡ true). simp e (omega arith))
    (λ (e : bytes_eq x a ≡ false). let r = place_below xs a (simp e at h) in simp e (omega arith))
    (cases_Bool (bytes_eq x a))

pub place_at : (xs : Atoms) (a : Atom) → has xs a ≡ true → get_or xs (place xs a) [] ≡ a
place_at [] a h = absurd (true≢false (sym h))
place_at (x ∷ xs) a h =
    ⊎_elim
    (λ (e : bytes_eq x a ≡ true). ap (λ n. get_or (x ∷ xs) n []) (cond-true (bytes_eq x a) 0 (suc (place xs a)) e) ∙ (bytes_eq-Decides x a).0 e)
    (λ (e : bytes_eq x a ≡ false). ap (λ n. get_or (x ∷ xs) n []) (cond-false (bytes_eq x a) 0 (suc (place xs a)) e) ∙ place_at xs a (simp e at h))
    (cases_Bool (bytes_eq x a))

abbrev pub Found : Atoms → Atom → Option ℕ → Type 0
Found xs a r = MatchOption r (has xs a ≡ false) (λ i. (i ≡ place xs a) × (has xs a ≡ true))

-- whether it was found
pub found_has : (xs : Atoms) (a : Atom) (r : Option ℕ) → Found xs a r → has xs a ≡ is_some r
found_has xs a None h = h
found_has xs a (Some i) h = h.1

pub place_append : (xs ys : Atoms) (a : Atom) → has xs a ≡ true → place (xs ++ ys) a ≡ place xs a
place_append [] ys a h = absurd (true≢false (sym h))
place_append (x ∷ xs) ys a h =
    ⊎_elim
    (λ (e : bytes_eq x a ≡ true). simp e)
    (λ (e : bytes_eq x a ≡ false). simp e (ap suc (place_append xs ys a (simp e at h))))
    (cases_Bool (bytes_eq x a))

pub place_push : (xs : Atoms) (a : Atom) → has xs a ≡ false → place (xs ++ a ∷ []) a ≡ length xs
place_push [] a h = cond-true _ _ _ ((bytes_eq-Decides a a).1 refl)
place_push (x ∷ xs) a h =
    ⊎_elim
    (λ (e : bytes_eq x a ≡ true). absurd (true≢false (simp e at h)))
    (λ (e : bytes_eq x a ≡ false). simp e (ap suc (place_push xs a (simp e at h))))
    (cases_Bool (bytes_eq x a))

-- ---- what is learned

pub total_append : (xs ys : Atoms) → total (xs ++ ys) ≡ total xs + total ys
total_append [] ys = omega arith
total_append (x ∷ xs) ys = omega (arith, total_append xs ys)

pub learned_news : (held ps : Atoms) → learned held ps ≡ held ++ news held ps
learned_news held [] = sym (append-nil held)
learned_news held (a ∷ rest) =
    ⊎_elim
    (λ (e : has held a ≡ true). simp e (learned_news held rest))
    (λ (e : has held a ≡ false). simp e (learned_news (held ++ a ∷ []) rest ∙ append_assoc held (a ∷ []) (news (held ++ a ∷ []) rest)))
    (cases_Bool (has held a))

learned_push : (held xs : Atoms) (a : Atom) → learned held (xs ++ a ∷ []) ≡ seen (learned held xs) a
learned_push held [] a = refl
learned_push held (x ∷ xs) a = learned_push (seen held x) xs a

pub learned_more : (held ps : Atoms) (i : ℕ) → i < length ps → learned held (take (i + 1) ps) ≡ seen (learned held (take i ps)) (get_or ps i [])
learned_more held ps i lt = ap (learned held) (take_more ps i [] lt) ∙ learned_push held (take i ps) (get_or ps i [])

pub learned_long : (held ps : Atoms) → (length held ≤ length (learned held ps)) × (total held ≤ total (learned held ps))
learned_long held ps = (
  omega (arith, ap length (learned_news held ps), length-append held (news held ps)),
  omega (arith, ap total (learned_news held ps), total_append held (news held ps)),
)

pub learned_place : (held ps : Atoms) (a : Atom) → has held a ≡ true → place (learned held ps) a ≡ place held a
learned_place held ps a h = ap (λ l. place l a) (learned_news held ps) ∙ place_append held (news held ps) a h

-- one more of the atoms ps, where a loop over them has come to the i-th of them: with it there are m
module _ (held ps : Atoms) (i m : ℕ) (x : Atom) (lt : i < length ps) (is : x ≡ get_or ps i []) (next : m ≡ i + 1) where
  abbrev SoFar : Atoms
  SoFar = learned held (take i ps)

  with_it : learned held (take m ps) ≡ seen SoFar x
  with_it = ap (λ n. learned held (take n ps)) next ∙ learned_more held ps i lt ∙ ap (seen SoFar) (sym is)

  -- where j is that place too
  module _ (j : ℕ) (there : j ≡ i) where
    pub none_new : not (has (learned held (take j ps)) x) ≡ false → learned held (take m ps) ≡ SoFar
    none_new e = with_it ∙ cond-true _ SoFar _ (not-false _ (ap (λ n. not (has (learned held (take n ps)) x)) (sym there) ∙ e))

    pub one_new : not (has (learned held (take j ps)) x) ≡ true → learned held (take m ps) ≡ SoFar ++ x ∷ []
    one_new e = with_it ∙ cond-false _ SoFar _ (not-true _ (ap (λ n. not (has (learned held (take n ps)) x)) (sym there) ∙ e))

  -- where the later ones are to be learned too
  module _ (now all : Atoms) (same : learned now (drop i ps) ≡ all) where
    pub onward : learned (seen now x) (drop m ps) ≡ all
    onward = (λ k. learned (seen now (is k)) (drop (next k) ps)) ∙ sym (at_drop_more (learned now) ps i [] lt) ∙ same

    pub room : (length (seen now x) ≤ length all) × (total (seen now x) ≤ total all)
    room = let l = learned_long (seen now x) (drop m ps) in (omega (arith, l.0, ap length onward), omega (arith, l.1, ap total onward))

    pub below_all : place (seen now x) x < length all
    below_all = omega (arith, place_below (seen now x) x (has_seen now x), room.0)

    pub fields_more : fields_for all (take m ps) ≡ fields_for all (take i ps) ++ (place (seen now x) x + 1) ∷ []
    fields_more =
        ap (λ n. fields_for all (take n ps)) next
        ∙ map_more (λ a. place all a + 1) ps i [] lt
        ∙ ap (λ n. fields_for all (take i ps) ++ (n + 1) ∷ []) (ap (place all) (sym is) ∙ ap (λ l. place l x) (sym onward) ∙ learned_place (seen now x) (drop m ps) x (has_seen now x))

pub fields_length : (all ps : Atoms) (i : ℕ) → i ≤ length ps → length (fields_for all (take i ps)) ≡ i
fields_length all ps i le = length-map (take i ps) (λ a. place all a + 1) ∙ length-take-le i ps le

pub total_push : (xs : Atoms) (a : Atom) → total (xs ++ a ∷ []) ≡ total xs + length a
total_push xs a = total_append xs (a ∷ []) ∙ omega arith

-- an answer that is none only against P and R
pub some_unless : {A P R : Type 0} (Q : A → Type 0) (r : Option A) → MatchOption r (P → R → ⊥) Q → P → R → is_some r ≡ true
some_unless Q None h p q = absurd (h p q)
some_unless Q (Some x) h p q = refl

-- what one more atom adds
pub ruleset added = (length_push, total_append, place_push)
