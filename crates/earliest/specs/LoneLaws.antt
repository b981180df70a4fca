-- The laws of the ranks of lone scopes.
use Rattle.std.specs.Prelude.{◌≡◌, ℕ, suc, ◌+◌, ◌*◌, ◌^◌, ◌<◌, ◌≤◌, false, T, Float}
use Rattle.std.proofs.Common.{sym, subst, le_trans, le_of_eq, le_of_lt, mul-le-mul_right, mul-pos, suc-mul, arith, pow-add, pow_pos, pow_mono}
use Rattle.std.proofs.Math.Arith.{lt_of_le-ne}
use Rattle.std.specs.Float.Ieee.Exact.{HasValue}
use Rattle.std.specs.Float.Ieee.Order.{le_of_values}
use Rattle.std.specs.Float.Ieee.Positive.{positive, positive_of_value, values_of_le}
use Rattle.earliest.specs.Scores.{term, lone_rank}
use Rattle.earliest.specs.Doubles.{term_value, term_fits}
use Rattle.earliest.specs.BitOrder.{bits_mono, bits_one, le_self, unsigned_of_value}

one_pos : 0 < 1
one_pos = omega arith

pub term_positive : (n p : ℕ) → 1 ≤ n → n ≤ 8 → p < 64 → T (positive (term n p))
term_positive n p o h l = positive_of_value (term n p) (n * 2 ^ (3 * p)) 1 (term_value n p h l) (mul-pos o (pow_pos (3 * p)))

-- the order of two terms is that of their values
pub term_le : (n p m q : ℕ) → 1 ≤ n → n ≤ 8 → p < 64 → 1 ≤ m → m ≤ 8 → q < 64 → n * 2 ^ (3 * p) ≤ m * 2 ^ (3 * q) → lone_rank n p ≤ lone_rank m q
term_le n p m q o h l o' h' l' v =
    bits_mono (term n p) (term m q) (unsigned_of_value (term n p) (n * 2 ^ (3 * p)) 1 (term_value n p h l)) (unsigned_of_value (term m q) (m * 2 ^ (3 * q)) 1 (term_value m q h' l'))
    (le_of_values (term n p) (term m q) (n * 2 ^ (3 * p)) 1 (m * 2 ^ (3 * q)) 1 one_pos one_pos (term_value n p h l) (term_value m q h' l') (mul-le-mul_right 1 v))

same_value : (x : Float) (a b : ℕ) → T (positive x) → HasValue x false a 1 → HasValue x false b 1 → a ≤ b
same_value x a b p v w = let r : a * 1 ≤ b * 1 = values_of_le x x a 1 b 1 p p v w (le_self x (unsigned_of_value x a 1 v)) in omega arith

pub longer : (n m p : ℕ) → 1 ≤ n → n < m → m ≤ 8 → p < 64 → lone_rank n p < lone_rank m p
longer n m p o h l b =
    let n8 : n ≤ 8 = omega arith in
    let m1 : 1 ≤ m = omega arith in
    let w = 2 ^ (3 * p) in
    let le' : lone_rank n p ≤ lone_rank m p = term_le n p m p o n8 b m1 l b (mul-le-mul_right w (le_of_lt h)) in
    lt_of_le-ne le' (λ (e : lone_rank n p ≡ lone_rank m p).
    let same : term m p ≡ term n p = sym (bits_one (term n p) (term m p) (term_fits n p) (term_fits m p) e) in
    let v : HasValue (term n p) false (m * w) 1 = subst (λ (z : Float). HasValue z false (m * w) 1) same (term_value m p l b) in
    let g : m * w ≤ n * w = same_value (term n p) (m * w) (n * w) (term_positive n p o n8 b) v (term_value n p n8 b) in
    let k : suc n * w ≤ m * w = mul-le-mul_right w h in
    clash n m w (pow_pos (3 * p)) k g)
  where
    clash : (a c u : ℕ) → 0 < u → suc a * u ≤ c * u → c * u ≤ a * u → ⊥
    clash a c u z k g = omega (arith, suc-mul a u)

pub deeper : (n m i j : ℕ) → 1 ≤ n → n ≤ 8 → 1 ≤ m → m ≤ 8 → i < j → j < 64 → lone_rank n i ≤ lone_rank m j
deeper n m i j o h o' h' l b =
    let ib : i < 64 = omega arith in
    let up : 3 + 3 * i ≤ 3 * j = omega arith in
    let a : n * 2 ^ (3 * i) ≤ 8 * 2 ^ (3 * i) = mul-le-mul_right (2 ^ (3 * i)) h in
    let c : 8 * 2 ^ (3 * i) ≤ 2 ^ (3 * j) = le_trans (le_of_eq (sym (pow-add 2 3 (3 * i)))) (pow_mono up) in
    let d : 1 * 2 ^ (3 * j) ≤ m * 2 ^ (3 * j) = mul-le-mul_right (2 ^ (3 * j)) o' in
    term_le n i m j o h ib o' h' b (omega arith)
