-- Digits of four bits in a word.
use Rattle.std.specs.Prelude.{◌≡◌, ℕ, ◌+◌, ◌-◌, ◌*◌, ◌/◌, ◌%◌, ◌^◌, ◌<◌, ◌≤◌, min}
use Rattle.std.proofs.Common.{sym, ap, ◌∙◌, le_refl, le_trans, mul-le-mul_right, mul_assoc, arith, pow_mono, pow-add, pow_pos}
use Rattle.deepest.specs.Worths.{RoomAt, Room, Words, value, digits}
use Rattle.deepest.specs.declared.Digits.{Digits}

-- a digit at the place p of word j, which is that of position i, leaves room for those below
pub room_take : (j w n i p r : ℕ) → n ≤ 8 → i ≡ p + 16 * j → p < 16 → RoomAt j w (i + 1) → r ≡ w + n * 2 ^ (4 * p) → RoomAt j r i
room_take j w n i p r h e l room is k b =
    let a : 4 * min 16 (i + 1 - 16 * j) ≡ 4 * p + 4 = omega arith in
    let m : 2 ^ (4 * min 16 (i + 1 - 16 * j)) ≡ 2 ^ (4 * p) * 16 = ap (λ (x : ℕ). 2 ^ x) a ∙ pow-add 2 (4 * p) 4 in
    let d : 4 * min 16 (k - 16 * j) ≤ 4 * p = omega arith in
    let f : 2 ^ (4 * min 16 (k - 16 * j)) ≤ 2 ^ (4 * p) = pow_mono d in
    let g : n * 2 ^ (4 * p) ≤ 8 * 2 ^ (4 * p) = mul-le-mul_right (2 ^ (4 * p)) h in
    let s = room (i + 1) (le_refl (i + 1)) in
    omega arith

-- and is one at its position of the whole number
pub raised : (n i p k : ℕ) → 4 * i ≡ 4 * p + k → n * 2 ^ (4 * p) * 2 ^ k ≡ n * 2 ^ (4 * i)
raised n i p k e = mul_assoc n (2 ^ (4 * p)) (2 ^ k) ∙ ap (λ (x : ℕ). n * x) (sym (pow-add 2 (4 * p) k) ∙ ap (λ (x : ℕ). 2 ^ x) (sym e))

pub room_start : (j i : ℕ) → RoomAt j 0 i
room_start j i k b =
    let e : 4 * min 16 (k - 16 * j) ≤ 64 = omega arith in
    let m : 2 ^ (4 * min 16 (k - 16 * j)) ≤ 2 ^ 64 = pow_mono e in
    omega arith

pub room_word : (j w i : ℕ) → RoomAt j w i → w < 2 ^ 64
room_word j w i r = let z : 0 ≤ i = omega arith in omega (arith, r 0 z, pow_pos (4 * min 16 (0 - 16 * j)))

pub room_words : (d : Digits) (i : ℕ) → Room d i → Words d
room_words d i r = record {
  top = room_word 3 d.top i r.top;
  upper = room_word 2 d.upper i r.upper;
  lower = room_word 1 d.lower i r.lower;
  bottom = room_word 0 d.bottom i r.bottom;
}

-- there is room for fewer digits too
pub room_down : (d : Digits) (i m : ℕ) → m ≤ i → Room d i → Room d m
room_down d i m h r = record {
  top = λ k b. r.top k (le_trans b h);
  upper = λ k b. r.upper k (le_trans b h);
  lower = λ k b. r.lower k (le_trans b h);
  bottom = λ k b. r.bottom k (le_trans b h);
}

-- the words of a whole number, and the whole number of words
pub value_digits : (v : ℕ) → value (digits v) ≡ v
value_digits v = omega arith

pub digits_value : (d : Digits) → Words d → digits (value d) ≡ d
digits_value d w =
    let v = value d in
    let a : v / 2 ^ 192 ≡ d.top = omega (arith, w.top, w.upper, w.lower, w.bottom) in
    let b : v / 2 ^ 128 % 2 ^ 64 ≡ d.upper = omega (arith, w.top, w.upper, w.lower, w.bottom) in
    let e : v / 2 ^ 64 % 2 ^ 64 ≡ d.lower = omega (arith, w.top, w.upper, w.lower, w.bottom) in
    let f : v % 2 ^ 64 ≡ d.bottom = omega (arith, w.top, w.upper, w.lower, w.bottom) in
    λ i. record { top = a i; upper = b i; lower = e i; bottom = f i }
