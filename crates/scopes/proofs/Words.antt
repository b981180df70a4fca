-- The fields of a word against its trailing zeros.
use Rattle.std.proofs.Common.{◌≡◌, ℕ, zero, suc, ◌+◌, ◌-◌, ◌*◌, ◌/◌, ◌%◌, ◌^◌, ◌<◌, ◌≤◌, Bool, true, false, cond, ◌&&◌, eqb, ◌⊎◌, List, [], ◌∷◌, ◌++◌, length, take, drop, set, Decides, sym, refl, ap, ◌∙◌, subst, inl, inr, ⊎_elim, add-one, arith}
use lib.Count.{count_trailing_zeros, under, trailing_le}
use Rattle.std.proofs.lemmas.Nat.{mod-pow-add}
use Rattle.std.proofs.lemmas.Bool.Decides.{nat_tests, Decides-at}
use Rattle.std.proofs.lemmas.Bool.{cases_lt, eqb-true, eq-eqb, ne_eqb, and_parts, and_from}
use Rattle.scopes.specs.Fields.{word_fields, fields, unused, packed, used, starts}

under_zero : (d t j : ℕ) → suc j ≤ under d t → (d ≡ 0) × (j ≤ t)
under_zero zero t j h = (refl, omega arith)
under_zero (suc d) t j h = absurd (omega arith)

under_from : (d t j : ℕ) → d ≡ 0 → j ≤ t → suc j ≤ under d t
under_from zero t j e h = omega arith
under_from (suc d) t j e h = absurd (omega arith)

-- below as many digits as its trailing zeros a number is 0, and no further
pub trailing_zero : (k n j : ℕ) → j ≤ count_trailing_zeros k n → n % 2 ^ j ≡ 0
unfolding count_trailing_zeros
trailing_zero k n zero h = omega arith
trailing_zero zero n (suc j) h = absurd (omega arith)
trailing_zero (suc k) n (suc j) h =
    let u = under_zero (n % 2) (count_trailing_zeros k (n / 2)) j h in
    let r = trailing_zero k (n / 2) j u.1 in
    subst (λ m. n % 2 ^ m ≡ 0) (add-one j) (mod-pow-add n j 1 ∙ omega (arith, u.0, r))

pub trailing_from : (k n j : ℕ) → j ≤ k → n % 2 ^ j ≡ 0 → j ≤ count_trailing_zeros k n
unfolding count_trailing_zeros
trailing_from k n zero le h = omega arith
trailing_from zero n (suc j) le h = absurd (omega arith)
trailing_from (suc k) n (suc j) le h =
    let e : (n / 2 % 2 ^ j) * 2 + n % 2 ≡ 0 = sym (mod-pow-add n j 1) ∙ subst (λ m. n % 2 ^ m ≡ 0) (sym (add-one j)) h in
    under_from (n % 2) (count_trailing_zeros k (n / 2)) j (omega arith) (trailing_from k (n / 2) j (omega arith) (omega arith))

-- how many of the four fields are used, by what is 0 below
module _ (w : ℕ) (fits : w < 2 ^ 64) (p : packed (word_fields w) ≡ true) where
  used_4 : (w % 65536 ≡ 0 → ⊥) → used (word_fields w) ≡ take 4 (word_fields w)
  used_4 h = grind (arith, nat_tests)

  used_3 : w % 65536 ≡ 0 → (w % 4294967296 ≡ 0 → ⊥) → used (word_fields w) ≡ take 3 (word_fields w)
  used_3 z h = grind (arith, nat_tests)

  used_2 : w % 4294967296 ≡ 0 → (w % 2 ^ 48 ≡ 0 → ⊥) → used (word_fields w) ≡ take 2 (word_fields w)
  used_2 z h = grind (arith, nat_tests)

  used_1 : w % 2 ^ 48 ≡ 0 → (w ≡ 0 → ⊥) → used (word_fields w) ≡ take 1 (word_fields w)
  used_1 z h = grind (arith, nat_tests)

  used_0 : w ≡ 0 → used (word_fields w) ≡ []
  used_0 z = grind (arith, nat_tests)

-- the first fields agree where the words do above the others
module _ (w v : ℕ) (fits : w < 2 ^ 64) (fits-v : v < 2 ^ 64) where
  same_4 : starts (take 4 (word_fields w)) (word_fields v) ≡ eqb w v
  same_4 = grind (arith, nat_tests)

  same_3 : starts (take 3 (word_fields w)) (word_fields v) ≡ eqb (w / 65536) (v / 65536)
  same_3 = grind (arith, nat_tests)

  same_2 : starts (take 2 (word_fields w)) (word_fields v) ≡ eqb (w / 4294967296) (v / 4294967296)
  same_2 = grind (arith, nat_tests)

  same_1 : starts (take 1 (word_fields w)) (word_fields v) ≡ eqb (w / 2 ^ 48) (v / 2 ^ 48)
  same_1 = grind (arith, nat_tests)

-- what holds of each number of unused fields at the end holds of the word's
pub by_blank : (w : ℕ) (P : ℕ → Type 0) → ((w % 65536 ≡ 0 → ⊥) → P 0) → (w % 65536 ≡ 0 → (w % 4294967296 ≡ 0 → ⊥) → P 1) → (w % 4294967296 ≡ 0 → (w % 2 ^ 48 ≡ 0 → ⊥) → P 2) → (w % 2 ^ 48 ≡ 0 → (w % 2 ^ 64 ≡ 0 → ⊥) → P 3) → (w % 2 ^ 64 ≡ 0 → P 4) → P (count_trailing_zeros 64 w / 16)
by_blank w P p0 p1 p2 p3 p4 =
    let t : ℕ = count_trailing_zeros 64 w in
    let at : (m : ℕ) → t / 16 ≡ m → P m → P (t / 16) = λ m e h. subst P (sym e) h in
    let above : (j : ℕ) → j ≤ 64 → t < j → w % 2 ^ j ≡ 0 → ⊥ = λ j le lt z. let f : j ≤ t = trailing_from 64 w j le z in omega arith in
    let below : (j : ℕ) → j ≤ t → w % 2 ^ j ≡ 0 = λ j le. trailing_zero 64 w j le in
    ⊎_elim
    (λ lt. at 0 (omega arith) (p0 (above 16 (omega arith) lt)))
    (λ ge. ⊎_elim
    (λ lt. at 1 (omega arith) (p1 (below 16 ge) (above 32 (omega arith) lt)))
    (λ ge. ⊎_elim
    (λ lt. at 2 (omega arith) (p2 (below 32 ge) (above 48 (omega arith) lt)))
    (λ ge. ⊎_elim
    (λ lt. at 3 (omega arith) (p3 (below 48 ge) (above 64 (omega arith) lt)))
    (λ ge. at 4 (omega (arith, trailing_le 64 w)) (p4 (below 64 ge)))
    (cases_lt t 64))
    (cases_lt t 48))
    (cases_lt t 32))
    (cases_lt t 16)

pub word_used : (w : ℕ) → w < 2 ^ 64 → packed (word_fields w) ≡ true → used (word_fields w) ≡ take (4 - count_trailing_zeros 64 w / 16) (word_fields w)
word_used w fits p =
    by_blank w (λ m. used (word_fields w) ≡ take (4 - m) (word_fields w)) (used_4 w fits p) (used_3 w fits p) (used_2 w fits p)
    (λ z h. used_1 w fits p z (λ e. h (omega arith)))
    (λ z. used_0 w fits p (omega arith))

pub word_starts : (w v : ℕ) → w < 2 ^ 64 → v < 2 ^ 64 → packed (word_fields w) ≡ true → (w ≡ 0 → ⊥) → starts (used (word_fields w)) (word_fields v) ≡ eqb (w / 2 ^ (count_trailing_zeros 64 w / 16 * 16)) (v / 2 ^ (count_trailing_zeros 64 w / 16 * 16))
word_starts w v fits fits-v p some =
    let S : List ℕ → Bool = λ l. starts l (word_fields v) in
    by_blank w (λ m. starts (used (word_fields w)) (word_fields v) ≡ eqb (w / 2 ^ (m * 16)) (v / 2 ^ (m * 16)))
    (λ h. ap S (used_4 w fits p h) ∙ grind (arith, nat_tests))
    (λ z h. ap S (used_3 w fits p z h) ∙ same_3 w v fits fits-v)
    (λ z h. ap S (used_2 w fits p z h) ∙ same_2 w v fits fits-v)
    (λ z h. ap S (used_1 w fits p z (λ e. h (omega arith))) ∙ same_1 w v fits fits-v)
    (λ z. absurd (some (omega arith)))

-- ---- two lists of fields, one after the other

pub cond_way : (t : Bool) (x y : Bool) → cond t x y ≡ true → ((t ≡ true) × (x ≡ true)) ⊎ ((t ≡ false) × (y ≡ true))
cond_way true x y h = inl (refl, h)
cond_way false x y h = inr (refl, h)

unused_parts : (xs ys : List ℕ) → unused (xs ++ ys) ≡ true → (unused xs ≡ true) × (unused ys ≡ true)
unused_parts [] ys h = (refl, h)
unused_parts (x ∷ xs) ys h = ⊎_elim (λ w. let r = unused_parts xs ys w.1 in (simp w.0 r.0, r.1)) (λ w. absurd (let z : ◌≡◌ {A = Bool} true false = sym w.1 in grind arith)) (cond_way (eqb x 0) (unused (xs ++ ys)) false h)

-- where the second has a used field, all of the first are used
pub join_some : (xs ys : List ℕ) → packed (xs ++ ys) ≡ true → unused ys ≡ false → (used (xs ++ ys) ≡ xs ++ used ys) × (packed ys ≡ true)
join_some [] ys p s = (refl, p)
join_some (x ∷ xs) ys p s =
    ⊎_elim
    (λ w. absurd (let z = (unused_parts xs ys w.1).1 in let y : ◌≡◌ {A = Bool} true false = sym z ∙ s in grind arith))
    (λ w. let r = join_some xs ys w.1 s in (simp w.0 (ap (λ l. x ∷ l) r.0), r.1))
    (cond_way (eqb x 0) (unused (xs ++ ys)) (packed (xs ++ ys)) p)

pub join_none : (xs ys : List ℕ) → packed (xs ++ ys) ≡ true → unused ys ≡ true → (used (xs ++ ys) ≡ used xs) × (packed xs ≡ true)
join_none [] [] p s = (refl, refl)
join_none [] (y ∷ ys) p s =
    ⊎_elim (λ w. (simp w.0, refl)) (λ w. absurd (let z : ◌≡◌ {A = Bool} true false = sym w.1 in grind arith)) (cond_way (eqb y 0) (unused ys) false s)
join_none (x ∷ xs) ys p s =
    ⊎_elim
    (λ w. (simp w.0, simp w.0 (unused_parts xs ys w.1).0))
    (λ w. let r = join_none xs ys w.1 s in (simp w.0 (ap (λ l. x ∷ l) r.0), simp w.0 r.1))
    (cond_way (eqb x 0) (unused (xs ++ ys)) (packed (xs ++ ys)) p)

used_short : (xs : List ℕ) → length (used xs) ≤ length xs
used_short [] = omega arith
used_short (x ∷ xs) = let h = used_short xs in elim (eqb x 0) as (λ t. length (cond t [] (x ∷ used xs)) ≤ length (x ∷ xs)) [ true ↦ omega arith | false ↦ omega arith ]

starts_more : (p s t : List ℕ) → length p ≤ length s → starts p (s ++ t) ≡ starts p s
starts_more [] s t le = refl
starts_more (x ∷ p) [] t le = absurd (omega arith)
starts_more (x ∷ p) (y ∷ s) t le = ap (λ b. eqb x y && b) (starts_more p s t (omega arith))

pub starts_decides : (p s : List ℕ) → Decides (starts p s) ((rest : List ℕ) × (s ≡ p ++ rest))
starts_decides [] s = ((λ _. (s, refl)), (λ _. refl))
starts_decides (x ∷ p) [] = ((λ e. absurd (let z : ◌≡◌ {A = Bool} true false = sym e in grind arith)), (λ h. absurd (let e = h.1 in let z : ◌≡◌ {A = ℕ} 0 1 = cc in omega arith)))
starts_decides (x ∷ p) (y ∷ s) =
    let d = starts_decides p s in (
      (λ e. let b = and_parts (eqb x y) (starts p s) e in let r = d.0 b.1 in (r.0, (λ i. sym (eqb-true x y b.0) i ∷ r.1 i))),
      (λ h. let e = h.1 in let x-y : x ≡ y = cc in let t : s ≡ p ++ h.0 = cc in and_from (eqb x y) (starts p s) (eq-eqb x y x-y) (d.1 (h.0, t))),
    )

-- ---- a whole scope

module _ (a b : ℕ) (fits-a : a < 2 ^ 64) (fits-b : b < 2 ^ 64) (p : packed (fields a b) ≡ true) where
  some_in : (b ≡ 0 → ⊥) → unused (word_fields b) ≡ false
  some_in h = grind (arith, nat_tests)

  none_in : b ≡ 0 → unused (word_fields b) ≡ true
  none_in h = grind (arith, nat_tests)

  take_length : (w m : ℕ) → m ≤ 4 → length (take (4 - m) (word_fields w)) ≡ 4 - m
  take_length w zero h = refl
  take_length w (suc zero) h = refl
  take_length w (suc (suc zero)) h = refl
  take_length w (suc (suc (suc zero))) h = refl
  take_length w (suc (suc (suc (suc zero)))) h = refl
  take_length w (suc (suc (suc (suc (suc m))))) h = absurd (omega arith)

  pub len_some : (b ≡ 0 → ⊥) → 8 - count_trailing_zeros 64 b / 16 ≡ length (used (fields a b))
  len_some h =
      let j = join_some (word_fields a) (word_fields b) p (some_in h) in
      let m : count_trailing_zeros 64 b / 16 ≤ 4 = omega (arith, trailing_le 64 b) in
      let e = ap length j.0 in
      let f = ap length (word_used b fits-b j.1) in
      omega (arith, e, f, take_length b (count_trailing_zeros 64 b / 16) m)

  pub len_none : b ≡ 0 → 8 - (count_trailing_zeros 64 a + 64) / 16 ≡ length (used (fields a b))
  len_none h =
      let j = join_none (word_fields a) (word_fields b) p (none_in h) in
      let m : count_trailing_zeros 64 a / 16 ≤ 4 = omega (arith, trailing_le 64 a) in
      let e = ap length j.0 in
      let f = ap length (word_used a fits-a j.1) in
      omega (arith, e, f, take_length a (count_trailing_zeros 64 a / 16) m)

  module _ (c d : ℕ) (fits-c : c < 2 ^ 64) (fits-d : d < 2 ^ 64) where
    pub starts_some : (b ≡ 0 → ⊥) → starts (used (fields a b)) (fields c d) ≡ (eqb a c && eqb (b / 2 ^ (count_trailing_zeros 64 b / 16 * 16)) (d / 2 ^ (count_trailing_zeros 64 b / 16 * 16)))
    starts_some h =
        let j = join_some (word_fields a) (word_fields b) p (some_in h) in
        let front : (z : Bool) → (eqb (a / 2 ^ 48) (c / 2 ^ 48) && (eqb ((a / 2 ^ 32) % 2 ^ 16) ((c / 2 ^ 32) % 2 ^ 16) && (eqb ((a / 2 ^ 16) % 2 ^ 16) ((c / 2 ^ 16) % 2 ^ 16) && (eqb (a % 2 ^ 16) (c % 2 ^ 16) && z)))) ≡ (eqb a c && z) = λ z. grind (arith, nat_tests) in
        ap (λ l. starts l (fields c d)) j.0 ∙ front (starts (used (word_fields b)) (word_fields d)) ∙ ap (λ z. eqb a c && z) (word_starts b d fits-b fits-d j.1 h)

    pub starts_none : b ≡ 0 → (a ≡ 0 → ⊥) → starts (used (fields a b)) (fields c d) ≡ eqb (a / 2 ^ (count_trailing_zeros 64 a / 16 * 16)) (c / 2 ^ (count_trailing_zeros 64 a / 16 * 16))
    starts_none h k =
        let j = join_none (word_fields a) (word_fields b) p (none_in h) in
        ap (λ l. starts l (fields c d)) j.0 ∙ starts_more (used (word_fields a)) (word_fields c) (word_fields d) (used_short (word_fields a)) ∙ word_starts a c fits-a fits-c j.1 k

-- what the test says, says the relation
pub prefix_by : (r : Bool) (p s : List ℕ) → r ≡ starts p s → Decides r ((rest : List ℕ) × (s ≡ p ++ rest))
prefix_by r p s e = Decides-at r (starts p s) e (starts_decides p s)

-- ---- one more field

none_used : (xs : List ℕ) → unused xs ≡ true → (used xs ≡ []) × (packed xs ≡ true)
none_used [] h = (refl, refl)
none_used (x ∷ xs) h =
    ⊎_elim (λ w. (simp w.0, simp w.0 w.1)) (λ w. absurd (let z : ◌≡◌ {A = Bool} true false = sym w.1 in grind arith)) (cond_way (eqb x 0) (unused xs) false h)

pub unused_rest : (xs : List ℕ) → packed xs ≡ true → unused (drop (length (used xs)) xs) ≡ true
unused_rest [] p = refl
unused_rest (x ∷ xs) p =
    ⊎_elim
    (λ w. simp w.0 w.1)
    (λ w. simp w.0 (unused_rest xs w.1))
    (cond_way (eqb x 0) (unused xs) (packed xs) p)

pub push : (xs : List ℕ) (v : ℕ) → packed xs ≡ true → length (used xs) < length xs → (v ≡ 0 → ⊥) → (packed (set xs (length (used xs)) v) ≡ true) × (used (set xs (length (used xs)) v) ≡ used xs ++ v ∷ [])
push [] v p lt some = absurd (omega arith)
push (x ∷ xs) v p lt some =
    ⊎_elim
    (λ w. let e = ne_eqb v 0 some in let n = none_used xs w.1 in (simp (w.0, e) n.1, simp (w.0, e) (ap (λ l. v ∷ l) n.0)))
    (λ w. let lt' : length (used xs) < length xs = (let h : length (x ∷ used xs) < length (x ∷ xs) = simp w.0 at lt in omega arith) in let r = push xs v w.1 lt' some in (simp w.0 r.0, simp w.0 (ap (λ l. x ∷ l) r.1)))
    (cond_way (eqb x 0) (unused xs) (packed xs) p)

module _ (a b v : ℕ) (fits-a : a < 2 ^ 64) (fits-b : b < 2 ^ 64) (fits-v : v < 65536) where
  set_a : (n : ℕ) → n < 4 → unused (drop n (fields a b)) ≡ true → fields (a + (v * 2 ^ (48 - 16 * n)) % 2 ^ 64) b ≡ set (fields a b) n v
  set_a zero lt u = grind (arith, nat_tests)
  set_a (suc zero) lt u = grind (arith, nat_tests)
  set_a (suc (suc zero)) lt u = grind (arith, nat_tests)
  set_a (suc (suc (suc zero))) lt u = grind (arith, nat_tests)
  set_a (suc (suc (suc (suc n)))) lt u = absurd (omega arith)

  set_b : (n : ℕ) → 4 ≤ n → n < 8 → unused (drop n (fields a b)) ≡ true → fields a (b + (v * 2 ^ (112 - 16 * n)) % 2 ^ 64) ≡ set (fields a b) n v
  set_b zero ge lt u = absurd (omega arith)
  set_b (suc zero) ge lt u = absurd (omega arith)
  set_b (suc (suc zero)) ge lt u = absurd (omega arith)
  set_b (suc (suc (suc zero))) ge lt u = absurd (omega arith)
  set_b (suc (suc (suc (suc zero)))) ge lt u = grind (arith, nat_tests)
  set_b (suc (suc (suc (suc (suc zero))))) ge lt u = grind (arith, nat_tests)
  set_b (suc (suc (suc (suc (suc (suc zero)))))) ge lt u = grind (arith, nat_tests)
  set_b (suc (suc (suc (suc (suc (suc (suc zero))))))) ge lt u = grind (arith, nat_tests)
  set_b (suc (suc (suc (suc (suc (suc (suc (suc n)))))))) ge lt u = absurd (omega arith)

-- the next field written keeps the fields packed, and is the last used
abbrev pub More : List ℕ → List ℕ → ℕ → Type 0
More new old v = (packed new ≡ true) × (used new ≡ used old ++ v ∷ [])

module _ (a b v n : ℕ) (fits-a : a < 2 ^ 64) (fits-b : b < 2 ^ 64) (p : packed (fields a b) ≡ true) (some : 0 < v) (fits-v : v < 65536) (len : n ≡ length (used (fields a b))) where
  rest : unused (drop n (fields a b)) ≡ true
  rest = subst (λ m. unused (drop m (fields a b)) ≡ true) (sym len) (unused_rest (fields a b) p)

  written : n < 8 → More (set (fields a b) n v) (fields a b) v
  written lt = subst (λ m. More (set (fields a b) m v) (fields a b) v) (sym len) (push (fields a b) v p (let e : length (fields a b) ≡ 8 = refl in omega arith) (λ z. omega arith))

  pub more_a : n < 4 → More (fields (a + (v * 2 ^ (48 - 16 * n)) % 2 ^ 64) b) (fields a b) v
  more_a lt = subst (λ l. More l (fields a b) v) (sym (set_a a b v fits-a fits-b fits-v n lt rest)) (written (omega arith))

  pub more_b : 4 ≤ n → n < 8 → More (fields a (b + (v * 2 ^ (112 - 16 * n)) % 2 ^ 64)) (fields a b) v
  more_b ge lt = subst (λ l. More l (fields a b) v) (sym (set_b a b v fits-a fits-b fits-v n ge lt rest)) (written lt)
