-- A laying's score is finite, and exact on at most 17 scopes.
use Rattle.std.specs.Prelude.{◌≡◌, ℕ, zero, suc, ◌+◌, ◌*◌, ◌^◌, ◌<◌, ◌≤◌, false, T, List, [], ◌∷◌, length, pos, refl, Float}
use Rattle.std.proofs.Common.{sym, ap, ◌∙◌, subst, le_trans, add_assoc, add-zero, mul-le-mul_right, arith, pow-add, pow_mono}
use Rattle.std.specs.Float.{nan, inf, fin, binary64}
use Rattle.std.specs.Float.Ieee.{fits, round, add, of_int}
use Rattle.std.specs.Float.Ieee.Fits.{add-fits, of_int-fits}
use Rattle.std.specs.Float.Ieee.Exact.{HasValue}
use Rattle.std.specs.Float.Ieee.Back.{whole_unique}
use Rattle.std.specs.Float.Ieee.Positive.{num, den}
use Rattle.std.specs.Float.Ieee.Scale.{finite}
use Rattle.scopes.specs.declared.scope.Scope.{Scope}
use Rattle.rankings.specs.Layings.{atoms, Lays}
use Rattle.earliest.specs.Scores.{term, zero64, plus, summed, score, exact}
use Rattle.rankings.proofs.Atoms.{atoms_few}
use Rattle.earliest.specs.Bounds.{Under, start, step}
use Rattle.earliest.specs.Doubles.{add_at, add_whole, term_value, int_value}

-- ---- how large a sum can be
pub under_more : (i j : ℕ) (x : Float) → i ≤ j → Under i x → Under j x
under_more i j x h u = record { value = u.value; most = le_trans u.most (mul-le-mul_right (den x) (mul-le-mul_right (2 ^ 192) h)) }

pub plus_under : (i n : ℕ) (x : Float) → i < 64 → n ≤ 8 → Under i x → Under (suc i) (plus x n i)
plus_under i zero x l h u = under_more i (suc i) x (omega arith) u
plus_under i (suc n) x l h u = step i x (suc n) i l (omega arith) h l u

summed_under : (path stack : List Scope) (qs : List ℕ) (i : ℕ) (x : Float) → length stack ≤ 64 → i ≤ 64 → Lays stack i path qs → Under i x → Under 64 (summed x path qs)
summed_under [] stack [] i x h k l u = under_more i 64 x k u
summed_under [] stack (q ∷ qs) i x h k l u = absurd l
summed_under (s ∷ path) stack [] i x h k l u = absurd l
summed_under (s ∷ path) stack (q ∷ qs) i x h k l u =
    let low : q < 64 = omega (arith, l.1.within) in
    summed_under path stack qs (suc q) (plus x (atoms s) q) h low l.2 (plus_under q (atoms s) x low (atoms_few s) (under_more i q x l.0 u))

finite_of : (x : Float) (a d : ℕ) → HasValue x false a d → T (finite x)
finite_of nan a d h = absurd h
finite_of (inf t) a d h = absurd h
finite_of (fin t m e) a d h = tt

pub score_value : (path stack : List Scope) (qs : List ℕ) → length stack ≤ 64 → Lays stack 0 path qs → HasValue (score path qs) false (num (score path qs)) (den (score path qs))
score_value path stack qs h l = (summed_under path stack qs 0 zero64 h (omega arith) l start).value

pub score_finite : (path stack : List Scope) (qs : List ℕ) → length stack ≤ 64 → Lays stack 0 path qs → T (finite (score path qs))
score_finite path stack qs h l =
    let x = score path qs in
    finite_of x (num x) (den x) (score_value path stack qs h l)

-- ---- where the exact sum is at most 2 ^ 53, each sum on the way is exact
plus_value : (x : Float) (a n q : ℕ) → n ≤ 8 → q < 64 → a + n * 2 ^ (3 * q) ≤ 2 ^ 53 → HasValue x false a 1 → HasValue (plus x n q) false (a + n * 2 ^ (3 * q)) 1
plus_value x a zero q h l r v = subst (λ (z : ℕ). HasValue x false z 1) (none a (2 ^ (3 * q))) v
  where
    none : (b c : ℕ) → b ≡ b + 0 * c
    none b c = omega arith
plus_value x a (suc n) q h l r v = add_whole binary64 x (term (suc n) q) a (suc n * 2 ^ (3 * q)) r v (term_value (suc n) q h l)

summed_value : (path stack : List Scope) (qs : List ℕ) (i : ℕ) (x : Float) (a : ℕ) → length stack ≤ 64 → Lays stack i path qs → a + exact path qs ≤ 2 ^ 53 → HasValue x false a 1 → HasValue (summed x path qs) false (a + exact path qs) 1
summed_value [] stack [] i x a k l h v = subst (λ (z : ℕ). HasValue x false z 1) (sym (add-zero a)) v
summed_value [] stack (q ∷ qs) i x a k l h v = absurd l
summed_value (s ∷ path) stack [] i x a k l h v = absurd l
summed_value (s ∷ path) stack (q ∷ qs) i x a k l h v =
    let b = atoms s * 2 ^ (3 * q) in
    let y = plus x (atoms s) q in
    let e : a + (b + exact path qs) ≡ a + b + exact path qs = sym (add_assoc a b (exact path qs)) in
    let r : a + b ≤ 2 ^ 53 = omega arith in
    let r' : a + b + exact path qs ≤ 2 ^ 53 = omega arith in
    let low : q < 64 = omega (arith, l.1.within) in
    subst (λ (z : ℕ). HasValue (summed y path qs) false z 1) (sym e)
    (summed_value path stack qs (suc q) y (a + b) k l.2 r' (plus_value x a (atoms s) q (atoms_few s) low r v))

plus_fits : (x : Float) (n q : ℕ) → T (fits binary64 x) → T (fits binary64 (plus x n q))
plus_fits x zero q f = f
plus_fits x (suc n) q f = add-fits binary64 x (term (suc n) q)

summed_fits : (path : List Scope) (qs : List ℕ) (x : Float) → T (fits binary64 x) → T (fits binary64 (summed x path qs))
summed_fits [] qs x f = f
summed_fits (s ∷ path) [] x f = f
summed_fits (s ∷ path) (q ∷ qs) x f = summed_fits path qs (plus x (atoms s) q) (plus_fits x (atoms s) q f)

zero_fits : T (fits binary64 zero64)
unfolding fits
zero_fits = tt

pub score_fits : (path : List Scope) (qs : List ℕ) → T (fits binary64 (score path qs))
score_fits path qs = summed_fits path qs zero64 zero_fits

-- the exact sum at positions that rise from b on, and stay below t, as a geometric sum bounds it
room : (path stack : List Scope) (qs : List ℕ) (b t : ℕ) → b ≤ t → length stack ≤ t → Lays stack b path qs → 7 * exact path qs + 8 * 2 ^ (3 * b) ≤ 8 * 2 ^ (3 * t)
room [] stack [] b t h k l = let u : 3 * b ≤ 3 * t = omega arith in let m : 2 ^ (3 * b) ≤ 2 ^ (3 * t) = pow_mono u in omega arith
room [] stack (q ∷ qs) b t h k l = absurd l
room (s ∷ path) stack [] b t h k l = absurd l
room (s ∷ path) stack (q ∷ qs) b t h k l =
    let n = atoms s in
    let below : suc q ≤ t = omega (arith, l.1.within) in
    let tail : 7 * exact path qs + 8 * 2 ^ (3 * suc q) ≤ 8 * 2 ^ (3 * t) = room path stack qs (suc q) t below k l.2 in
    let s3 : 3 * suc q ≡ 3 + 3 * q = omega arith in
    let e : 2 ^ (3 * suc q) ≡ 8 * 2 ^ (3 * q) = ap (λ (z : ℕ). 2 ^ z) s3 ∙ pow-add 2 3 (3 * q) in
    let a : n * 2 ^ (3 * q) ≤ 8 * 2 ^ (3 * q) = mul-le-mul_right (2 ^ (3 * q)) (atoms_few s) in
    let u : 3 * b ≤ 3 * q = omega (arith, l.0) in
    let m : 2 ^ (3 * b) ≤ 2 ^ (3 * q) = pow_mono u in
    omega arith

pub score_exact : (path stack : List Scope) (qs : List ℕ) → length stack ≤ 17 → Lays stack 0 path qs → score path qs ≡ of_int binary64 (pos (exact path qs))
score_exact path stack qs h l =
    let w = exact path qs in
    let r : 7 * w + 8 * 2 ^ (3 * 0) ≤ 8 * 2 ^ (3 * 17) = room path stack qs 0 17 (omega arith) h l in
    let most : w ≤ 2 ^ 53 = omega arith in
    let most' : 0 + w ≤ 2 ^ 53 = omega arith in
    let z : 0 + w ≡ w = omega arith in
    let few : length stack ≤ 64 = omega arith in
    whole_unique binary64 (score path qs) (of_int binary64 (pos w)) false w (score_fits path qs) (of_int-fits binary64 (pos w))
    (subst (λ (k : ℕ). HasValue (score path qs) false k 1) z (summed_value path stack qs 0 zero64 0 few l most' (refl, refl))) (int_value w most)

-- ---- the first term
one_pos : 0 < 1
one_pos = omega arith

from_zero : (n q : ℕ) → n ≤ 8 → q < 64 → add binary64 zero64 (term n q) ≡ term n q
from_zero n q h l =
    add_at binary64 zero64 (term n q) 0 1 (n * 2 ^ (3 * q)) 1 one_pos one_pos (refl, refl) (term_value n q h l)
    ∙ ap (λ (z : ℕ). round binary64 false z 1) (plain (n * 2 ^ (3 * q)))
  where
    plain : (b : ℕ) → 0 * 1 + b * 1 ≡ b
    plain b = omega arith

pub plus_zero : (n q : ℕ) → 1 ≤ n → n ≤ 8 → q < 64 → plus zero64 n q ≡ term n q
plus_zero zero q o h l = absurd (not_one o)
  where
    not_one : 1 ≤ 0 → ⊥
    not_one g = omega arith
plus_zero (suc n) q o h l = from_zero (suc n) q h l
