-- A sum of k terms is a number of at most k * 2 ^ 192: never an infinity, never a NaN.
use Rattle.std.specs.Prelude.{◌≡◌, ℕ, suc, ◌+◌, ◌*◌, ◌^◌, ◌<◌, ◌≤◌, false, T, pos, refl, Float}
use Rattle.std.proofs.Common.{sym, ap, ◌∙◌, subst, le_refl, lt_of_lt_of_le, mul-one, mul_assoc, add-mul, mul-pos, mul-le-mul, mul-le-mul_right, arith, pow_pos, pow_mono, shl_lt}
use Rattle.std.specs.Float.{fin, binary64}
use Rattle.std.specs.Float.Ieee.{round, add, le}
use Rattle.std.specs.Float.Ieee.Exact.{HasValue, round_exact}
use Rattle.std.specs.Float.Ieee.Back.{round_whole}
use Rattle.std.specs.Float.Ieee.Order.{round_mono}
use Rattle.std.specs.Float.Ieee.Positive.{num, den, positive, den_pos, own_value, positive_of_value, values_of_le, between}
use Rattle.earliest.specs.Scores.{term}
use Rattle.earliest.specs.Doubles.{add_at, term_value}

-- x is a number that is not negative and at most k * 2 ^ 192
pub record Under (k : ℕ) (x : Float) : Type 0 where
  pub value : HasValue x false (num x) (den x)
  pub most : num x ≤ k * 2 ^ 192 * den x

one_pos : 0 < 1
one_pos = omega arith

pub start : Under 0 (fin false 0 (pos 0))
start = record { value = (refl, refl); most = le_refl 0 }

room : (k : ℕ) → k ≤ 64 → k * 2 ^ 1266 < 2 ^ 2098
room k h =
    let a : k < 2 ^ 7 = omega arith in
    let b : 7 + 1266 ≤ 2098 = omega arith in
    lt_of_lt_of_le (shl_lt {a = k} 7 1266 a) (pow_mono b)

limit_value : (k : ℕ) → k ≤ 64 → HasValue (round binary64 false (k * 2 ^ 192) 1) false (k * 2 ^ 192) 1
limit_value k h =
    let small : k < 2 ^ 53 = omega arith in
    round_exact binary64 false (k * 2 ^ 192) 1 k 1266 one_pos small (room k h) (mul_assoc k (2 ^ 192) (2 ^ 1074) ∙ sym (mul-one (k * 2 ^ 1266)))

pub term_most : (n p : ℕ) → n ≤ 8 → p < 64 → n * 2 ^ (3 * p) ≤ 2 ^ 192
term_most n p h l = let k : 3 * p ≤ 189 = omega arith in mul-le-mul {n₁ = n} {m₁ = 2 ^ (3 * p)} {n₂ = 8} {m₂ = 2 ^ 189} h (pow_mono k)

pub term_least : (n p : ℕ) → 1 ≤ n → 1 ≤ n * 2 ^ (3 * p)
term_least n p h = mul-pos h (pow_pos (3 * p))

pub step : (k : ℕ) (x : Float) (n p : ℕ) → k < 64 → 1 ≤ n → n ≤ 8 → p < 64 → Under k x → Under (suc k) (add binary64 x (term n p))
step k x n p kl o h l u =
    let b = n * 2 ^ (3 * p) in
    let nx = num x in
    let dx = den x in
    let K = suc k * 2 ^ 192 in
    let N = nx * 1 + b * dx in
    let D = dx * 1 in
    let z = round binary64 false N D in
    let is : add binary64 x (term n p) ≡ z = add_at binary64 x (term n p) nx dx b 1 (den_pos x) one_pos u.value (term_value n p h l) in
    let dp : 0 < D = subst (λ (q : ℕ). 0 < q) (sym (mul-one dx)) (den_pos x) in
    let b1 : 1 * dx ≤ b * dx = mul-le-mul_right dx (term_least n p o) in
    let bm : b * dx ≤ 2 ^ 192 * dx = mul-le-mul_right dx (term_most n p h l) in
    let um : nx ≤ k * 2 ^ 192 * dx = u.most in
    let Ks : K * dx ≡ k * 2 ^ 192 * dx + 2 ^ 192 * dx = ap (λ (q : ℕ). q * dx) (grow k) ∙ add-mul (k * 2 ^ 192) (2 ^ 192) dx in
    let lower : 1 * D ≤ N * 1 = omega arith in
    let upper : N * 1 ≤ K * D = subst (λ (q : ℕ). N * 1 ≤ K * q) (sym (mul-one dx)) (omega arith) in
    let kle : suc k ≤ 64 = omega arith in
    let lo = round binary64 false 1 1 in
    let hi = round binary64 false K 1 in
    let lov : HasValue lo false 1 1 = round_whole binary64 false 1 (omega arith) in
    let hiv : HasValue hi false K 1 = limit_value (suc k) kle in
    let lop : T (positive lo) = positive_of_value lo 1 1 lov one_pos in
    let hip : T (positive hi) = positive_of_value hi K 1 hiv (omega arith) in
    let a : T (le lo z) = round_mono binary64 1 1 N D one_pos dp lower in
    let c : T (le z hi) = round_mono binary64 N D K 1 dp one_pos upper in
    let zp : T (positive z) = between lo z hi lop hip a c in
    let zv = own_value z zp in
    let m : num z ≤ K * den z = subst (λ (q : ℕ). q ≤ K * den z) (mul-one (num z)) (values_of_le z hi (num z) (den z) K 1 zp hip zv hiv c) in
    subst (λ (q : Float). Under (suc k) q) (sym is) (record { value = zv; most = m })
  where
    grow : (j : ℕ) → suc j * 2 ^ 192 ≡ j * 2 ^ 192 + 2 ^ 192
    grow j = omega arith
