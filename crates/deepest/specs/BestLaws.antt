-- `best` is the highest worth among all layings, and there is one highest. From that, the laws of a ranking.
use Rattle.std.specs.Prelude.{◌≡◌, ℕ, zero, suc, ◌+◌, ◌-◌, ◌*◌, ◌^◌, ◌<◌, ◌≤◌, max, Bool, true, false, cond, ◌⊎◌, List, [], ◌∷◌, length, drop, Some, None, Option, ◌≢◌, nat_le, slice_index_or, refl}
use Rattle.std.proofs.Common.{sym, ap, ◌∙◌, subst, true≢false, inl, inr, le_refl, le_trans, le_of_eq, le_antisymm, eq-or-lt_of_le, eq-zero-or-pos, mul-le-mul_right, suc-mul, arith, le-leb, pow_pos, pow_mono, pow-add, drop_of_length-le, drop-cons}
use Rattle.std.proofs.lemmas.Bool.{leb-false, leb-true, lt-leb}
use Rattle.std.specs.Option.{option_map}
use Rattle.scopes.specs.declared.scope.Scope.{Scope}
use Rattle.scopes.specs.Scopes.{begins}
use Rattle.rankings.specs.Layings.{atoms, blank, FitsAt, Lays}
use Rattle.rankings.specs.Ranks.{Lone, Answers}
use Rattle.deepest.specs.Worths.{worth, value, digits, lone_digits}
use Rattle.deepest.specs.Best.{Highest, HighOf, higher, best, BestIsHighest, path_digits}
use Rattle.deepest.specs.declared.Digits.{Digits}
use Rattle.deepest.specs.Rooms.{value_digits, digits_value}

max_l : (x y : ℕ) → x ≤ max x y
max_l x y = omega arith

max_r : (x y : ℕ) → y ≤ max x y
max_r x y = omega arith

max_pick : (x y : ℕ) → (max x y ≡ x) ⊎ (max x y ≡ y)
max_pick x y = elim (eq-zero-or-pos (x - y)) [ inl z ↦ inr (omega arith) | inr z ↦ inl (omega arith) ]

-- the highest of two kinds, of which a third consists
pub joined : (P Q R : List ℕ → Type 0) (w : List ℕ → ℕ) → ((qs : List ℕ) → R qs → P qs ⊎ Q qs) → ((qs : List ℕ) → P qs → R qs) → ((qs : List ℕ) → Q qs → R qs)
    → (a b : Option ℕ) → HighOf P w a → HighOf Q w b → HighOf R w (higher a b)
joined P Q R w s p q None None x y = λ qs r. elim (s qs r) [ inl u ↦ x qs u | inr u ↦ y qs u ]
joined P Q R w s p q None (Some v) x y = ((y.0.0, q y.0.0 y.0.1, y.0.2), λ qs r. elim (s qs r) [ inl u ↦ absurd (x qs u) | inr u ↦ y.1 qs u ])
joined P Q R w s p q (Some v) None x y = ((x.0.0, p x.0.0 x.0.1, x.0.2), λ qs r. elim (s qs r) [ inl u ↦ x.1 qs u | inr u ↦ absurd (y qs u) ])
joined P Q R w s p q (Some v) (Some t) x y = (
  elim (max_pick v t) [
    | inl e ↦ (x.0.0, p x.0.0 x.0.1, e ∙ x.0.2)
    | inr e ↦ (y.0.0, q y.0.0 y.0.1, e ∙ y.0.2)
  ],
  λ qs r. elim (s qs r) [ inl u ↦ le_trans (x.1 qs u) (max_l v t) | inr u ↦ le_trans (y.1 qs u) (max_r v t) ],
)

-- layings with the first scope at the position i
abbrev Here : List Scope → ℕ → Scope → List Scope → List ℕ → Type 0
Here st i p ps [] = ⊥
Here st i p ps (q ∷ qs) = (q ≡ i) × (begins p (slice_index_or st i blank) ≡ true) × Lays st (suc i) ps qs

placed : (st : List Scope) (i : ℕ) (p : Scope) (ps : List Scope) (b : Bool) → begins p (slice_index_or st i blank) ≡ b → (o : Option ℕ) → HighOf (Lays st (suc i) ps) (worth ps) o
    → HighOf (Here st i p ps) (worth (p ∷ ps)) (cond b (option_map (λ (v : ℕ). atoms p * 2 ^ (4 * i) + v) o) None)
placed st i p ps false e o x = λ qs h. miss qs h
  where
    miss : (qs : List ℕ) → Here st i p ps qs → ⊥
    miss [] h = h
    miss (q ∷ qs) h = true≢false (sym h.1 ∙ e)
placed st i p ps true e None x = λ qs h. miss qs h
  where
    miss : (qs : List ℕ) → Here st i p ps qs → ⊥
    miss [] h = h
    miss (q ∷ qs) h = x qs h.2
placed st i p ps true e (Some v) x = (
  (i ∷ x.0.0, (refl, e, x.0.1), ap (λ (z : ℕ). atoms p * 2 ^ (4 * i) + z) x.0.2),
  λ qs h. most qs h,
)
  where
    most : (qs : List ℕ) → Here st i p ps qs → worth (p ∷ ps) qs ≤ atoms p * 2 ^ (4 * i) + v
    most [] h = absurd h
    most (q ∷ qs) h =
        let a : atoms p * 2 ^ (4 * q) ≡ atoms p * 2 ^ (4 * i) = ap (λ (z : ℕ). atoms p * 2 ^ (4 * z)) h.0 in
        let b : worth ps qs ≤ v = x.1 qs h.2 in
        omega arith

-- `best`, from the position i on
nothing_left : (st : List Scope) (i : ℕ) → HighOf (Lays st i []) (worth []) (Some 0)
nothing_left st i = (([], tt, refl), λ qs l. le_refl 0)

no_room : (st : List Scope) (i : ℕ) (p : Scope) (ps : List Scope) → length st ≤ i → HighOf (Lays st i (p ∷ ps)) (worth (p ∷ ps)) None
no_room st i p ps h = λ qs l. miss qs l
  where
    miss : (qs : List ℕ) → Lays st i (p ∷ ps) qs → ⊥
    miss [] l = l
    miss (q ∷ qs) l = omega (arith, l.0, l.1.within)

pub best_from : (st : List Scope) (d i : ℕ) (ps : List Scope) → i + d ≡ length st → HighOf (Lays st i ps) (worth ps) (best ps (drop i st) i)
best_from st d i [] e = nothing_left st i
best_from st zero i (p ∷ ps) e =
    let h : length st ≤ i = omega arith in
    subst (λ (ys : List Scope). HighOf (Lays st i (p ∷ ps)) (worth (p ∷ ps)) (best (p ∷ ps) ys i)) (sym (drop_of_length-le st h)) (no_room st i p ps h)
best_from st (suc d) i (p ∷ ps) e =
    let h : i < length st = omega arith in
    let e' : suc i + d ≡ length st = omega arith in
    subst (λ (ys : List Scope). HighOf (Lays st i (p ∷ ps)) (worth (p ∷ ps)) (best (p ∷ ps) ys i)) (sym (drop-cons st i blank h))
    (joined (Here st i p ps) (Lays st (suc i) (p ∷ ps)) (Lays st i (p ∷ ps)) (worth (p ∷ ps)) (λ qs l. split qs l) (λ qs l. one qs h l) (λ qs l. two qs l) _ _
    (placed st i p ps (begins p (slice_index_or st i blank)) refl (best ps (drop (suc i) st) (suc i)) (best_from st d (suc i) ps e'))
    (best_from st d (suc i) (p ∷ ps) e'))
  where
    split : (qs : List ℕ) → Lays st i (p ∷ ps) qs → Here st i p ps qs ⊎ Lays st (suc i) (p ∷ ps) qs
    split [] l = absurd l
    split (q ∷ qs) l = elim (eq-or-lt_of_le l.0) [
      | inl s ↦ inl (sym s, subst (λ (z : ℕ). begins p (slice_index_or st z blank) ≡ true) (sym s) l.1.prefix, subst (λ (z : ℕ). Lays st (suc z) ps qs) (sym s) l.2)
      | inr s ↦ inr (s, l.1, l.2)
    ]

    one : (qs : List ℕ) → i < length st → Here st i p ps qs → Lays st i (p ∷ ps) qs
    one [] h l = l
    one (q ∷ qs) h l = (
      le_of_eq (sym l.0),
      record { within = subst (λ (z : ℕ). z < length st) (sym l.0) h; prefix = subst (λ (z : ℕ). begins p (slice_index_or st z blank) ≡ true) (sym l.0) l.1 },
      subst (λ (z : ℕ). Lays st (suc z) ps qs) (sym l.0) l.2,
    )

    two : (qs : List ℕ) → Lays st (suc i) (p ∷ ps) qs → Lays st i (p ∷ ps) qs
    two [] l = l
    two (q ∷ qs) l = let b : i ≤ q = omega (arith, l.0) in (b, l.1, l.2)

pub best_highest : BestIsHighest
best_highest path st = let e : 0 + length st ≡ length st = omega arith in best_from st (length st) 0 path e

-- there is one highest
pub one_highest : (P : List ℕ → Type 0) (w : List ℕ → ℕ) (a b : Option ℕ) → HighOf P w a → HighOf P w b → a ≡ b
one_highest P w None None x y = refl
one_highest P w None (Some v) x y = absurd (x y.0.0 y.0.1)
one_highest P w (Some v) None x y = absurd (y x.0.0 x.0.1)
one_highest P w (Some v) (Some t) x y = ap (λ (z : ℕ). Some z) (le_antisymm (le_trans (le_of_eq x.0.2) (y.1 x.0.0 x.0.1)) (le_trans (le_of_eq y.0.2) (x.1 y.0.0 y.0.1)))

-- a path that is not empty
pub some_scopes : (s : Scope) (path : List Scope) → s ∷ path ≢ []
some_scopes s path e = let z : length (s ∷ path) ≡ 0 = ap length e in omega arith

pub not_empty : (path : List Scope) → 0 < length path → path ≢ []
not_empty path h e = let z : length path ≡ 0 = ap length e in omega arith

pub empty : (path : List Scope) → length path ≤ 0 → path ≡ []
empty [] h = refl
empty (s ∷ path) h = absurd (omega arith)

-- digits by the number that they stand for
value_of : Option Digits → Option ℕ
value_of r = option_map value r

high : (path st : List Scope) (r : Option Digits) → (path ≢ []) → Highest path st r → HighOf (Lays st 0 path) (worth path) (value_of r)
unfolding value_of
high path st None n h = λ qs l. h n (qs, l)
high path st (Some d) n h = (h.laid, h.most)

kept : (path st : List Scope) (r : Option Digits) → Highest path st r → option_map digits (value_of r) ≡ r
unfolding value_of
kept path st None h = refl
kept path st (Some d) h = ap (λ (z : Digits). Some z) (digits_value d h.words)

-- what the relation holds of is the function's answer
pub found : (path st : List Scope) (r : Option Digits) → Highest path st r → r ≡ path_digits path st
found [] st None h = refl
found [] st (Some d) h = absurd (h.some refl)
found (p ∷ ps) st r h =
    sym (kept (p ∷ ps) st r h)
    ∙ ap (option_map digits) (one_highest (Lays st 0 (p ∷ ps)) (worth (p ∷ ps)) (value_of r) (best (p ∷ ps) st 0) (high (p ∷ ps) st r (some_scopes p ps) h) (best_highest (p ∷ ps) st))

pub found_worth : (path st : List Scope) (qs : List ℕ) → (path ≢ []) → Lays st 0 path qs → ((rs : List ℕ) → Lays st 0 path rs → worth path rs ≤ worth path qs)
    → path_digits path st ≡ Some (digits (worth path qs))
found_worth [] st qs n l m = absurd (n refl)
found_worth (p ∷ ps) st qs n l m =
    ap (option_map digits) (one_highest (Lays st 0 (p ∷ ps)) (worth (p ∷ ps)) (best (p ∷ ps) st 0) (Some (worth (p ∷ ps) qs)) (best_highest (p ∷ ps) st) ((qs, l, refl), m))

-- the laws of a ranking
pub answers : (path st : List Scope) → Answers path st (path_digits path st)
answers [] st = λ n l. n refl
answers (p ∷ ps) st = go (best (p ∷ ps) st 0) (best_highest (p ∷ ps) st)
  where
    go : (o : Option ℕ) → HighOf (Lays st 0 (p ∷ ps)) (worth (p ∷ ps)) o → Answers (p ∷ ps) st (option_map digits o)
    go None h = λ n l. h l.0 l.1
    go (Some v) h = (some_scopes p ps, (h.0.0, h.0.1))

pub total : (x y : Digits) → nat_le (value x) (value y) ≡ false → nat_le (value y) (value x) ≡ true
total x y e =
    let h : value y < value x = leb-false (value x) (value y) e in
    le-leb (value y) (value x) (omega arith)

pub transitive : (x y z : Digits) → nat_le (value x) (value y) ≡ true → nat_le (value y) (value z) ≡ true → nat_le (value x) (value z) ≡ true
transitive x y z e f =
    let h : value x ≤ value y = leb-true (value x) (value y) e in
    let k : value y ≤ value z = leb-true (value y) (value z) f in
    le-leb (value x) (value z) (le_trans h k)

pub longer : (n m i : ℕ) → n < m → nat_le (value (lone_digits m i)) (value (lone_digits n i)) ≡ false
longer n m i h =
    let w = 2 ^ (4 * i) in
    let k : suc n * w ≤ m * w = mul-le-mul_right w h in
    let p : 0 < w = pow_pos (4 * i) in
    let q : n * w < m * w = omega (arith, suc-mul n w) in
    rw (value_digits (m * w), value_digits (n * w)) (lt-leb (m * w) (n * w) q)

pub deeper : (n m i j : ℕ) → Lone n i → Lone m j → i < j → nat_le (value (lone_digits n i)) (value (lone_digits m j)) ≡ true
deeper n m i j a b l =
    let up : 4 + 4 * i ≤ 4 * j = omega arith in
    let e : n * 2 ^ (4 * i) ≤ 8 * 2 ^ (4 * i) = mul-le-mul_right (2 ^ (4 * i)) a.few in
    let c : 16 * 2 ^ (4 * i) ≤ 2 ^ (4 * j) = le_trans (le_of_eq (sym (pow-add 2 4 (4 * i)))) (pow_mono up) in
    let d : 1 * 2 ^ (4 * j) ≤ m * 2 ^ (4 * j) = mul-le-mul_right (2 ^ (4 * j)) b.some in
    let q : n * 2 ^ (4 * i) ≤ m * 2 ^ (4 * j) = omega arith in
    rw (value_digits (n * 2 ^ (4 * i)), value_digits (m * 2 ^ (4 * j))) (le-leb (n * 2 ^ (4 * i)) (m * 2 ^ (4 * j)) q)

pub single : (s : Scope) (st : List Scope) (r : Digits) → path_digits (s ∷ []) st ≡ Some r → (i : ℕ) × FitsAt s st i × (r ≡ lone_digits (atoms s) i)
single s st r e = go (best (s ∷ []) st 0) (best_highest (s ∷ []) st) e
  where
    at : (v : ℕ) (qs : List ℕ) → Lays st 0 (s ∷ []) qs → v ≡ worth (s ∷ []) qs → r ≡ digits v → (i : ℕ) × FitsAt s st i × (r ≡ lone_digits (atoms s) i)
    at v [] l f g = absurd l
    at v (q ∷ qs) l f g = let z : atoms s * 2 ^ (4 * q) + 0 ≡ atoms s * 2 ^ (4 * q) = omega arith in (q, l.1, g ∙ ap digits (f ∙ z))

    go : (o : Option ℕ) → HighOf (Lays st 0 (s ∷ [])) (worth (s ∷ [])) o → option_map digits o ≡ Some r → (i : ℕ) × FitsAt s st i × (r ≡ lone_digits (atoms s) i)
    go None x f = let z : ◌≡◌ {A = ℕ} 0 1 = cc in absurd (off z)
      where
        off : ◌≡◌ {A = ℕ} 0 1 → ⊥
        off g = omega arith
    go (Some v) x f = let g : digits v ≡ r = cc in at v x.0.0 x.0.1 x.0.2 (sym g)
