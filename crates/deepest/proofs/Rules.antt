-- The order of worths is the manual's rule: what lies below a scope is worth less than any more of that scope, or than it at all.
use Rattle.std.proofs.Common.{◌≡◌, ℕ, suc, ◌+◌, ◌-◌, ◌*◌, ◌^◌, ◌<◌, ◌≤◌, ◌⊎◌, List, [], ◌∷◌, sym, refl, ap, ◌∙◌, inl, inr, le_trans, le_of_eq, mul-le-mul_right, suc-mul, eq-zero-or-pos, arith, pow_pos, pow_mono, pow-add}
use Rattle.scopes.specs.declared.scope.Scope.{Scope}
use Rattle.rankings.specs.Layings.{atoms, Lays}
use Rattle.rankings.specs.declared.Laid.{Laid}
use Rattle.deepest.specs.Worths.{worth}
use Rattle.rankings.specs.Places.{laid_scopes}
use Rattle.deepest.specs.Manual.{turned, deepest_first, Wins, AllSome, Manual}
use Rattle.rankings.proofs.Atoms.{atoms_few}

-- what some laid scopes are worth
abbrev weight : List Laid → ℕ
weight [] = 0
weight (x ∷ xs) = x.atoms * 2 ^ (4 * x.position) + weight xs

-- from the deepest on they lie below q, each below the one before, and have 1 to 8 atoms
abbrev Falls : ℕ → List Laid → Type 0
Falls q [] = Unit {0}
Falls q (x ∷ xs) = (x.position < q) × (1 ≤ x.atoms) × (x.atoms ≤ 8) × Falls x.position xs

falls_up : (p q : ℕ) (xs : List Laid) → p ≤ q → Falls p xs → Falls q xs
falls_up p q [] h f = tt
falls_up p q (x ∷ xs) h f = (le_trans f.0 h, f.1, f.2, f.3)

-- the digits below q are worth less than one at q
below : (q : ℕ) (xs : List Laid) → Falls q xs → weight xs < 2 ^ (4 * q)
below q [] f = pow_pos (4 * q)
below q (x ∷ xs) f =
    let p = x.position in
    let rest = below p xs f.3 in
    let a : x.atoms * 2 ^ (4 * p) ≤ 8 * 2 ^ (4 * p) = mul-le-mul_right (2 ^ (4 * p)) f.2 in
    let up : 4 + 4 * p ≤ 4 * q = omega (arith, f.0) in
    let b : 16 * 2 ^ (4 * p) ≤ 2 ^ (4 * q) = le_trans (le_of_eq (sym (pow-add 2 4 (4 * p)))) (pow_mono up) in
    let z : 0 < 2 ^ (4 * p) = pow_pos (4 * p) in
    omega arith

-- a scope alone is worth that much
alone : (x : Laid) (xs : List Laid) → 1 ≤ x.atoms → 2 ^ (4 * x.position) ≤ weight (x ∷ xs)
alone x xs h =
    let a : 1 * 2 ^ (4 * x.position) ≤ x.atoms * 2 ^ (4 * x.position) = mul-le-mul_right (2 ^ (4 * x.position)) h in
    omega arith

wins_more : (p q : ℕ) (xs ys : List Laid) → Falls p xs → Falls q ys → Wins xs ys → weight ys < weight xs
wins_more p q [] ys f g w = absurd w
wins_more p q (x ∷ xs) [] f g w = let z : 0 < 2 ^ (4 * x.position) = pow_pos (4 * x.position) in omega (arith, alone x xs f.1)
wins_more p q (x ∷ xs) (y ∷ ys) f g (inl h) =
    let b : weight (y ∷ ys) < 2 ^ (4 * x.position) = below x.position (y ∷ ys) (h, g.1, g.2, g.3) in
    omega (arith, alone x xs f.1)
wins_more p q (x ∷ xs) (y ∷ ys) f g (inr (inl h)) =
    let m = 2 ^ (4 * x.position) in
    let e : y.atoms * 2 ^ (4 * y.position) ≡ y.atoms * m = ap (λ (z : ℕ). y.atoms * 2 ^ (4 * z)) (sym h.0) in
    let b : weight ys < m = below x.position ys (falls_up y.position x.position ys (le_of_eq (sym h.0)) g.3) in
    let k : suc y.atoms * m ≤ x.atoms * m = mul-le-mul_right m h.1 in
    omega (arith, suc-mul y.atoms m)
wins_more p q (x ∷ xs) (y ∷ ys) f g (inr (inr h)) =
    let e : x.atoms * 2 ^ (4 * x.position) ≡ y.atoms * 2 ^ (4 * y.position) =
    ap (λ (z : ℕ). x.atoms * 2 ^ (4 * z)) h.0 ∙ ap (λ (z : ℕ). z * 2 ^ (4 * y.position)) h.1 in
    let r = wins_more x.position y.position xs ys f.3 g.3 h.2 in
    omega arith

-- one wins, or the other, or they are the same
three : (m n : ℕ) → (n < m) ⊎ (m < n) ⊎ (m ≡ n)
three m n =
    elim (eq-zero-or-pos (m - n)) [
      | inl a ↦ elim (eq-zero-or-pos (n - m)) [ inl b ↦ inr (inr (omega arith)) | inr b ↦ inr (inl (omega arith)) ]
      | inr a ↦ inl (omega arith)
    ]

same_laid : (x y : Laid) → x.position ≡ y.position → x.atoms ≡ y.atoms → x ≡ y
same_laid x y p a = λ i. record { atoms = a i; position = p i }

one_of : (xs ys : List Laid) → Wins xs ys ⊎ Wins ys xs ⊎ (xs ≡ ys)
one_of [] [] = inr (inr refl)
one_of [] (y ∷ ys) = inr (inl tt)
one_of (x ∷ xs) [] = inl tt
one_of (x ∷ xs) (y ∷ ys) =
    elim (three x.position y.position) [
      | inl h ↦ inl (inl h)
      | inr (inl h) ↦ inr (inl (inl h))
      | inr (inr p) ↦ elim (three x.atoms y.atoms) [
        | inl h ↦ inl (inr (inl (p, h)))
        | inr (inl h) ↦ inr (inl (inr (inl (sym p, h))))
        | inr (inr a) ↦ elim (one_of xs ys) [
          | inl w ↦ inl (inr (inr (p, a, w)))
          | inr (inl w) ↦ inr (inl (inr (inr (sym p, sym a, w))))
          | inr (inr e) ↦ inr (inr (ap (λ (z : Laid). z ∷ xs) (same_laid x y p a) ∙ ap (λ (zs : List Laid). y ∷ zs) e))
        ]
      ]
    ]

-- a laying from the deepest scope on
turned_falls : (stack : List Scope) (from : ℕ) (path : List Scope) (qs : List ℕ) (xs : List Laid) → Lays stack from path qs → AllSome path → Falls from xs
    → (q : ℕ) × Falls q (turned (laid_scopes path qs) xs)
turned_falls stack from [] qs xs l a f = (from, f)
turned_falls stack from (s ∷ path) [] xs l a f = absurd l
turned_falls stack from (s ∷ path) (q ∷ qs) xs l a f =
    turned_falls stack (suc q) path qs (record { atoms = atoms s; position = q } ∷ xs) l.2 a.1 (omega arith, a.0, atoms_few s, falls_up from q xs l.0 f)

turned_weight : (path : List Scope) (qs : List ℕ) (xs : List Laid) → weight (turned (laid_scopes path qs) xs) ≡ worth path qs + weight xs
turned_weight [] qs xs = omega arith
turned_weight (s ∷ path) [] xs = omega arith
turned_weight (s ∷ path) (q ∷ qs) xs = omega (arith, turned_weight path qs (record { atoms = atoms s; position = q } ∷ xs))

deepest_weight : (path : List Scope) (qs : List ℕ) → weight (deepest_first path qs) ≡ worth path qs
deepest_weight path qs = omega (arith, turned_weight path qs [])

by_weight : (p q v w : ℕ) (xs ys : List Laid) → Falls p xs → Falls q ys → weight xs ≡ v → weight ys ≡ w → (w < v → Wins xs ys) × (v ≡ w → xs ≡ ys)
by_weight p q v w xs ys f g a b =
    elim (one_of xs ys) [
      | inl h ↦ (λ _. h, λ e. absurd (let m = wins_more p q xs ys f g h in omega arith))
      | inr (inl h) ↦ (λ l. absurd (let m = wins_more q p ys xs g f h in omega arith), λ e. absurd (let m = wins_more q p ys xs g f h in omega arith))
      | inr (inr e) ↦ (λ l. absurd (let m : weight xs ≡ weight ys = ap weight e in omega arith), λ _. e)
    ]

pub manual : Manual
manual stack p qs stack' p' qs' a a' l l' =
    let f = turned_falls stack 0 p qs [] l a tt in
    let f' = turned_falls stack' 0 p' qs' [] l' a' tt in
    let w = deepest_weight p qs in
    let w' = deepest_weight p' qs' in
    let back = by_weight f.0 f'.0 (worth p qs) (worth p' qs') (deepest_first p qs) (deepest_first p' qs') f.1 f'.1 w w' in
    record {
      wins = λ h. let m = wins_more f.0 f'.0 (deepest_first p qs) (deepest_first p' qs') f.1 f'.1 h in omega arith;
      higher = back.0;
      equal = λ e. sym w ∙ ap weight e ∙ w';
      same = back.1;
    }
