-- Doubles that hold whole numbers: powers of two by their bits, sums and products by values.
use Rattle.std.specs.Prelude.{◌≡◌, ℕ, suc, ◌+◌, ◌-◌, ◌*◌, ◌/◌, ◌%◌, ◌^◌, ◌<◌, ◌≤◌, Bool, true, false, not, T, pos, refl, Float}
use Rattle.std.proofs.Common.{sym, ap, ◌∙◌, subst, true≢false, le_refl, le_trans, lt_of_lt_of_le, lt_of_not-le, not-le_of_lt, le_antisymm, mul-one, one-mul, mul_comm, mul_assoc, mul_left_comm, add-mul, mul-pos, mul-div_cancel, div-one, arith, lt→ltb, pow-add, pow_pos, pow_mono, shl_lt}
use Rattle.std.proofs.Math.Nat.{mul-mul-mul_comm, mod-le}
use Rattle.std.proofs.Math.Arith.{le→nltb}
use Rattle.std.proofs.Math.Pow.{pow-lt}
use Rattle.std.specs.Float.{nan, inf, fin, Format, binary64}
use Rattle.std.specs.Float.Ieee.{prec, size, round, sum, add, mul, of_int, fits, is_nan, ones, hid, top, of_bits, to_bits, nan_bits}
use Rattle.std.specs.Float.Ieee.Digits.{size-lt, size-le}
use Rattle.std.specs.Float.Ieee.Fits.{round-fits}
use Rattle.std.specs.Float.Ieee.Bits.{of_bits-to_bits, nan_bits_above}
use Rattle.std.specs.Float.Ieee.Exact.{HasValue, round_exact}
use Rattle.std.specs.Float.Ieee.Back.{round_whole}
use Rattle.std.specs.Float.Ieee.Scale.{round_same}
use Rattle.std.specs.Float.Ieee.Positive.{num, den, den_pos, value→cross, mul_at, positive_of_value}
use Rattle.earliest.specs.Scores.{term}

-- ---- a number's digits
pub size_gt : (n j : ℕ) → 2 ^ j ≤ n → j < size n
size_gt n j h = lt_of_not-le (λ (g : size n ≤ j). not-le_of_lt (lt_of_lt_of_le (size-lt n) (pow_mono g)) h)

suc_lt : (m : ℕ) → m < suc m
suc_lt m = omega arith

pub size_pow : (m : ℕ) → size (2 ^ m) ≡ suc m
size_pow m = le_antisymm (size-le (2 ^ m) (suc m) (pow-lt (suc_lt m))) (size_gt (2 ^ m) m (le_refl (2 ^ m)))

-- ---- 2 ^ k as a double
units_of : (k : ℕ) → 1 * 2 ^ k * 2 ^ 1074 / 1 ≡ 2 ^ (k + 1074)
units_of k = div-one (1 * 2 ^ k * 2 ^ 1074) ∙ ap (λ (x : ℕ). x * 2 ^ 1074) (one-mul (2 ^ k)) ∙ sym (pow-add 2 k 1074)

digits_over : (k : ℕ) → size (2 ^ (k + 1074)) - 53 ≡ k + 1022
digits_over k = let e : size (2 ^ (k + 1074)) ≡ suc (k + 1074) = size_pow (k + 1074) in omega arith

split_pow : (k : ℕ) → 2 ^ (k + 1074) ≡ 2 ^ 52 * 2 ^ (k + 1022)
split_pow k = let e : k + 1074 ≡ 52 + (k + 1022) = omega arith in ap (λ (x : ℕ). 2 ^ x) e ∙ pow-add 2 52 (k + 1022)

pattern : (n k : ℕ) → n ≡ 2 ^ (k + 1074) → 0 + (size n - 53) * 2 ^ 52 + n / 2 ^ (size n - 53) ≡ (1023 + k) * 2 ^ 52
pattern n k e =
    let a : size n - 53 ≡ k + 1022 = ap (λ (x : ℕ). size x - 53) e ∙ digits_over k in
    let b : n / 2 ^ (size n - 53) ≡ 2 ^ 52 = ap (λ (x : ℕ). n / 2 ^ x) a ∙ ap (λ (x : ℕ). x / 2 ^ (k + 1022)) (e ∙ split_pow k) ∙ mul-div_cancel (2 ^ 52) (pow_pos (k + 1022)) in
    omega arith

pub power_bits : (k : ℕ) → to_bits binary64 (fin false 1 (pos k)) ≡ (1023 + k) * 2 ^ 52
unfolding to_bits
power_bits k = pattern (1 * 2 ^ k * 2 ^ 1074 / 1) k (units_of k)

pub power_fits : (k : ℕ) → k < 1024 → T (fits binary64 (fin false 1 (pos k)))
unfolding fits
power_fits k h = lt→ltb (1 * 2 ^ k) (2 ^ 1024 * 1) (subst (λ (x : ℕ). x < 2 ^ 1024) (sym (one-mul (2 ^ k))) (pow-lt h))

pub power_of_bits : (k : ℕ) → k < 1024 → of_bits binary64 ((1023 + k) * 2 ^ 52) ≡ fin false 1 (pos k)
power_of_bits k h = ap (of_bits binary64) (sym (power_bits k)) ∙ of_bits-to_bits binary64 (fin false 1 (pos k)) (power_fits k h)

pub up_to_infinity : (f : Format) (n : ℕ) → n ≤ ones f * hid f → T (not (nan_bits f n))
up_to_infinity f n h = subst (λ (b : Bool). T (not b)) (sym (nan_bits_above f n)) (le→nltb (ones f * hid f) (n % top f) (le_trans (mod-le n (top f)) h))

-- ---- a value with the sign clear is its own fraction
pub plain : (x : Float) (a c : ℕ) → HasValue x false a c → HasValue x false (num x) (den x)
plain nan a c h = absurd h
plain (inf s) a c h = absurd h
plain (fin s m e) a c h = (h.0, refl)

add_is : (f : Format) (x y : Float) → HasValue x false (num x) (den x) → HasValue y false (num y) (den y)
    → add f x y ≡ round f false (num x * den y + num y * den x) (den x * den y)
unfolding add sum
add_is f nan y p q = absurd p
add_is f (inf s) y p q = absurd p
add_is f (fin true m e) y p q = absurd (true≢false p.0)
add_is f (fin false m e) nan p q = absurd q
add_is f (fin false m e) (inf t) p q = absurd q
add_is f (fin false m e) (fin true n d) p q = absurd (true≢false q.0)
add_is f (fin false m e) (fin false n d) p q = refl

cross : (nx dx ny dy a c b d : ℕ) → nx * c ≡ a * dx → ny * d ≡ b * dy → (nx * dy + ny * dx) * (c * d) ≡ (a * d + b * c) * (dx * dy)
cross nx dx ny dy a c b d p q =
    let l : nx * dy * (c * d) ≡ a * d * (dx * dy) = mul-mul-mul_comm nx dy c d ∙ ap (λ (z : ℕ). z * (dy * d)) p ∙ simp (mul_assoc, mul_comm, mul_left_comm) in
    let r : ny * dx * (c * d) ≡ b * c * (dx * dy) = simp (mul_assoc, mul_comm, mul_left_comm) (simp (mul_assoc, mul_comm, mul_left_comm) at (ap (λ (z : ℕ). z * (dx * c)) q)) in
    add-mul (nx * dy) (ny * dx) (c * d) ∙ ap (λ (z : ℕ). z + ny * dx * (c * d)) l ∙ ap (λ (z : ℕ). a * d * (dx * dy) + z) r ∙ sym (add-mul (a * d) (b * c) (dx * dy))

-- by any fractions that the terms equal
pub add_at : (f : Format) (x y : Float) (a c b d : ℕ) → 0 < c → 0 < d → HasValue x false a c → HasValue y false b d → add f x y ≡ round f false (a * d + b * c) (c * d)
add_at f x y a c b d C D h k =
    add_is f x y (plain x a c h) (plain y b d k)
    ∙ round_same f false (num x * den y + num y * den x) (den x * den y) (a * d + b * c) (c * d) (mul-pos (den_pos x) (den_pos y)) (mul-pos C D)
    (cross (num x) (den x) (num y) (den y) a c b d (value→cross x a c h) (value→cross y b d k))

one_pos : 0 < 1
one_pos = omega arith

ones_gone : (a b : ℕ) → a * 1 + b * 1 ≡ a + b
ones_gone a b = omega arith

-- whole numbers up to 2 ^ prec add exactly
pub add_whole : (f : Format) (x y : Float) (a b : ℕ) → a + b ≤ 2 ^ prec f → HasValue x false a 1 → HasValue y false b 1 → HasValue (add f x y) false (a + b) 1
add_whole f x y a b s h k =
    subst (λ (z : Float). HasValue z false (a + b) 1) (sym (add_at f x y a 1 b 1 one_pos one_pos h k ∙ ap (λ (z : ℕ). round f false z 1) (ones_gone a b)))
    (round_whole f false (a + b) s)

-- ---- a term
term_room : (n k : ℕ) → n ≤ 8 → k ≤ 189 → n * 2 ^ (k + 1074) < 2 ^ 2098
term_room n k h l =
    let a : n < 2 ^ 4 = omega arith in
    let b : 4 + (k + 1074) ≤ 2098 = omega arith in
    lt_of_lt_of_le (shl_lt {a = n} 4 (k + 1074) a) (pow_mono b)

pub term_value : (n p : ℕ) → n ≤ 8 → p < 64 → HasValue (term n p) false (n * 2 ^ (3 * p)) 1
term_value n p h l =
    let k : 3 * p ≤ 189 = omega arith in
    let small : n < 2 ^ 53 = omega arith in
    round_exact binary64 false (n * 2 ^ (3 * p)) 1 n (3 * p + 1074) one_pos small (term_room n (3 * p) h k)
    (mul_assoc n (2 ^ (3 * p)) (2 ^ 1074) ∙ ap (λ (z : ℕ). n * z) (sym (pow-add 2 (3 * p) 1074)) ∙ sym (mul-one (n * 2 ^ (3 * p + 1074))))

pub term_fits : (n p : ℕ) → T (fits binary64 (term n p))
term_fits n p = round-fits binary64 false (n * 2 ^ (3 * p)) 1

power_value : (k : ℕ) → HasValue (fin false 1 (pos k)) false (2 ^ k) 1
power_value k = (refl, ap (λ (z : ℕ). z * 1) (one-mul (2 ^ k)))

int_is : (n : ℕ) → of_int binary64 (pos n) ≡ round binary64 false n 1
unfolding of_int
int_is n = refl

pub int_value : (n : ℕ) → n ≤ 2 ^ 53 → HasValue (of_int binary64 (pos n)) false n 1
int_value n h = subst (λ (z : Float). HasValue z false n 1) (sym (int_is n)) (round_whole binary64 false n h)

-- the product that the code makes is the term
pub term_is : (n p : ℕ) (w : Float) → 1 ≤ n → n ≤ 8 → w ≡ fin false 1 (pos (3 * p)) → mul binary64 (of_int binary64 (pos n)) w ≡ term n p
term_is n p w o h e =
    let small : n ≤ 2 ^ 53 = omega arith in
    let x = of_int binary64 (pos n) in
    let v = int_value n small in
    let y = fin false 1 (pos (3 * p)) in
    ap (mul binary64 x) e
    ∙ mul_at binary64 x y n 1 (2 ^ (3 * p)) 1 (positive_of_value x n 1 v o) (positive_of_value y (2 ^ (3 * p)) 1 (power_value (3 * p)) (pow_pos (3 * p))) one_pos one_pos v (power_value (3 * p))

-- what has a value is no NaN
pub value_number : (x : Float) (s : Bool) (a c : ℕ) → HasValue x s a c → T (not (is_nan x))
unfolding is_nan
value_number nan s a c h = absurd h
value_number (inf t) s a c h = tt
value_number (fin t m e) s a c h = tt

pub term_number : (n p : ℕ) → n ≤ 8 → p < 64 → T (not (is_nan (term n p)))
term_number n p h l = value_number (term n p) false (n * 2 ^ (3 * p)) 1 (term_value n p h l)

pub zero_is : of_bits binary64 0 ≡ fin false 0 (pos 0)
unfolding of_bits
zero_is = refl
