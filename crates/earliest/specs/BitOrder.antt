-- Of two doubles with the sign clear the larger has the larger pattern, as a number, and the order of patterns is that of the doubles.
use Rattle.std.specs.Prelude.{◌≡◌, ℕ, ◌+◌, ◌-◌, ◌*◌, ◌/◌, ◌^◌, ◌<◌, ◌≤◌, Bool, true, false, ◌&&◌, ◌||◌, T, ◌⊎◌, ◌==◌, from_bits, nat_le, nat_lt, refl, Float}
use Rattle.std.proofs.Common.{sym, ap, ◌∙◌, subst, true≢false, inl, inr, le_refl, le_trans, le_of_eq, le_of_lt, eq-zero-or-pos, lt_of_le_of_lt, le_antisymm, eq-or-lt_of_le, mul_right_comm, mul-le-mul_right, le-div_iff_mul-le, arith, le→leb, leb→le, ltb→lt, eqb→eq, pow-add, pow_pos}
use Rattle.std.proofs.Math.Pow.{shr_mono}
use Rattle.std.specs.Float.{nan, inf, fin, binary64}
use Rattle.std.specs.Float.Ieee.{up, down, size, fits, le, to_bits}
use Rattle.std.specs.Float.Ieee.Digits.{size-lt, size-le, size_reaches}
use Rattle.std.specs.Float.Ieee.Fits.{kept-lt}
use Rattle.std.specs.Float.Ieee.Bits.{of_bits-to_bits}
use Rattle.std.specs.Float.Ieee.Nearest.{div_mono}
use Rattle.std.specs.Float.Ieee.Exact.{HasValue}
use Rattle.std.specs.Float.Ieee.Order.{le_of_values}
use Rattle.std.specs.Float.Ieee.Positive.{num, den, den_pos}
use Rattle.earliest.specs.Scores.{unsigned, BitsOrder}

pub size_mono : (a b : ℕ) → a ≤ b → size a ≤ size b
size_mono a b h = size-le a (size b) (lt_of_le_of_lt h (size-lt b))

-- the pattern of a units of the smallest double
abbrev pub pat : ℕ → ℕ
pat a = (size a - 53) * 2 ^ 52 + a / 2 ^ (size a - 53)

top_digit : (b : ℕ) → 0 < size b - 53 → 2 ^ 52 ≤ b / 2 ^ (size b - 53)
top_digit b h =
    let k = size b - 53 in
    let l : 52 + k < size b = omega arith in
    (le-div_iff_mul-le (pow_pos k)).1 (le_trans (le_of_eq (sym (pow-add 2 52 k))) (size_reaches b (52 + k) l))

apart : (j k x y : ℕ) → j < k → x < 2 ^ 53 → 2 ^ 52 ≤ y → j * 2 ^ 52 + x ≤ k * 2 ^ 52 + y
apart j k x y h a b = omega arith

pub pat_mono : (a b : ℕ) → a ≤ b → pat a ≤ pat b
pat_mono a b h =
    let j = size a - 53 in
    let k = size b - 53 in
    let s : size a ≤ size b = size_mono a b h in
    let jk : j ≤ k = omega arith in
    elim (eq-or-lt_of_le jk) [
      | inl e ↦
          let q : a / 2 ^ j ≤ b / 2 ^ k = subst (λ (z : ℕ). a / 2 ^ j ≤ b / 2 ^ z) e (shr_mono j h) in
          let r : j * 2 ^ 52 ≡ k * 2 ^ 52 = ap (λ (z : ℕ). z * 2 ^ 52) e in
          omega arith
      | inr l ↦
          let p : 0 < k = omega arith in
          apart j k (a / 2 ^ j) (b / 2 ^ k) l (kept-lt 53 a) (top_digit b p)
    ]

-- a double in units of the smallest one
abbrev pub in_units : Float → ℕ
in_units x = num x * 2 ^ 1074 / den x

pub bits_are : (x : Float) → T (unsigned x) → to_bits binary64 x ≡ pat (in_units x)
unfolding to_bits
bits_are nan p = absurd p
bits_are (inf s) p = absurd p
bits_are (fin true m e) p = absurd p
bits_are (fin false m e) p = zero_off ((size (m * up e * 2 ^ 1074 / down e) - 53) * 2 ^ 52) _
  where
    zero_off : (u v : ℕ) → 0 + u + v ≡ u + v
    zero_off u v = omega arith

-- ---- the order of doubles, as one of fractions
or_split : (a b : Bool) → T (a || b) → T a ⊎ T b
or_split true b t = inl tt
or_split false b t = inr t

and_first : (a b : Bool) → T (a && b) → T a
and_first true b t = tt
and_first false b t = t

lt_or_eq : (a b : ℕ) → T (nat_lt a b || (a == b && true)) → a ≤ b
lt_or_eq a b t = elim (or_split (nat_lt a b) (a == b && true) t) [ inl u ↦ le_of_lt (ltb→lt a b u) | inr u ↦ le_of_eq (eqb→eq a b (and_first (a == b) true u)) ]

le→cross : (x y : Float) → T (unsigned x) → T (unsigned y) → T (le x y) → num x * den y ≤ num y * den x
unfolding le
le→cross nan y p q h = absurd p
le→cross (inf s) y p q h = absurd p
le→cross (fin true m e) y p q h = absurd p
le→cross (fin false m e) nan p q h = absurd q
le→cross (fin false m e) (inf t) p q h = absurd q
le→cross (fin false m e) (fin true n d) p q h = absurd q
le→cross (fin false m e) (fin false n d) p q h = lt_or_eq (m * up e * down d) (n * up d * down e) h

own_value : (x : Float) → T (unsigned x) → HasValue x false (num x) (den x)
own_value nan p = absurd p
own_value (inf s) p = absurd p
own_value (fin true m e) p = absurd p
own_value (fin false m e) p = (refl, refl)

cross→le : (x y : Float) → T (unsigned x) → T (unsigned y) → num x * den y ≤ num y * den x → T (le x y)
cross→le x y p q h = le_of_values x y (num x) (den x) (num y) (den y) (den_pos x) (den_pos y) (own_value x p) (own_value y q) h

pub unsigned_of_value : (x : Float) (a c : ℕ) → HasValue x false a c → T (unsigned x)
unsigned_of_value nan a c h = absurd h
unsigned_of_value (inf s) a c h = absurd h
unsigned_of_value (fin true m e) a c h = absurd (true≢false h.0)
unsigned_of_value (fin false m e) a c h = tt

units_mono : (x y : Float) → num x * den y ≤ num y * den x → in_units x ≤ in_units y
units_mono x y h =
    div_mono (num x * 2 ^ 1074) (den x) (num y * 2 ^ 1074) (den y) (den_pos x) (den_pos y)
    (le_trans (le_of_eq (mul_right_comm (num x) (2 ^ 1074) (den y))) (le_trans (mul-le-mul_right (2 ^ 1074) h) (le_of_eq (mul_right_comm (num y) (den x) (2 ^ 1074)))))

pub bits_mono : (x y : Float) → T (unsigned x) → T (unsigned y) → T (le x y) → to_bits binary64 x ≤ to_bits binary64 y
bits_mono x y p q h =
    le_trans (le_of_eq (bits_are x p)) (le_trans (pat_mono (in_units x) (in_units y) (units_mono x y (le→cross x y p q h))) (le_of_eq (sym (bits_are y q))))

pub bits_one : (x y : Float) → T (fits binary64 x) → T (fits binary64 y) → to_bits binary64 x ≡ to_bits binary64 y → x ≡ y
bits_one x y p q e = sym (of_bits-to_bits binary64 x p) ∙ ap (from_bits binary64) e ∙ of_bits-to_bits binary64 y q

pub le_self : (x : Float) → T (unsigned x) → T (le x x)
le_self x p = cross→le x x p p (le_refl (num x * den x))

either : (a b : ℕ) → (a ≤ b) ⊎ (b ≤ a)
either a b = elim (eq-zero-or-pos (a - b)) [ inl z ↦ inl (omega arith) | inr z ↦ inr (omega arith) ]

pub bits_reflect : (x y : Float) → T (unsigned x) → T (unsigned y) → T (fits binary64 x) → T (fits binary64 y) → to_bits binary64 x ≤ to_bits binary64 y → T (le x y)
bits_reflect x y p q fx fy h =
    elim (either (num x * den y) (num y * den x)) [
      | inl l ↦ cross→le x y p q l
      | inr g ↦ subst (λ (z : Float). T (le x z)) (bits_one x y fx fy (le_antisymm h (bits_mono y x q p (cross→le y x q p g)))) (le_self x p)
    ]

same_tests : (a b : Bool) → (T a → T b) → (T b → T a) → a ≡ b
same_tests true true f g = refl
same_tests true false f g = absurd (f tt)
same_tests false true f g = absurd (g tt)
same_tests false false f g = refl

-- the order of the patterns as numbers is the order of the doubles
pub bits_order : BitsOrder
bits_order x y p q fx fy =
    same_tests (nat_le (to_bits binary64 x) (to_bits binary64 y)) (le x y)
    (λ (t : T (nat_le (to_bits binary64 x) (to_bits binary64 y))). bits_reflect x y p q fx fy (leb→le _ _ t))
    (λ (t : T (le x y)). le→leb _ _ (bits_mono x y p q t))
