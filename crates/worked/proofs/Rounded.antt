-- A sum that is rounded: 1 and 4 * 2 ^ 51.
use Rattle.std.proofs.Common.{◌≡◌, ℕ, ◌-◌, ◌*◌, ◌/◌, ◌%◌, ◌^◌, ◌<◌, ◌≤◌, false, [], ◌∷◌, pos, Some, sym, refl, ap, ◌∙◌, arith, lit<, lit≤}
use Prim.Native.Nat.{compare}
use lib.Ieee.{Float, binary64, round, add, to_bits, of_int, size, units, nearest}
use lib.Ieee.Digits.{size-le}
use Rattle.scopes.specs.Scopes.{atoms_in, fields_in}
use Rattle.earliest.specs.Ranks.{path_rank}
use Rattle.earliest.specs.Scores.{term, zero64}
use Rattle.earliest.specs.Doubles.{add_at, term_value, size_gt}
use Rattle.worked.specs.Named.{a, w·x·y·z}
use Rattle.worked.specs.Table.{scored, tall}

-- the two terms, at 0 and 17
laid : path_rank (a ∷ w·x·y·z ∷ []) tall ≡ Some (to_bits binary64 (add binary64 (add binary64 zero64 (term 1 0)) (term 4 17)))
unfolding atoms_in fields_in
laid = refl

one_pos : 0 < 1
one_pos = omega arith

first : add binary64 zero64 (term 1 0) ≡ term 1 0
first = add_at binary64 zero64 (term 1 0) 0 1 1 1 one_pos one_pos (refl, refl) (term_value 1 0 (omega arith) (omega arith))

second : add binary64 (term 1 0) (term 4 17) ≡ round binary64 false 9007199254740993 1
second = add_at binary64 (term 1 0) (term 4 17) 1 1 9007199254740992 1 one_pos one_pos (term_value 1 0 (omega arith) (omega arith)) (term_value 4 17 (omega arith) (omega arith))

-- a number of the smallest units, rounded to a multiple of 2 ^ k of them
abbrev at : ℕ → ℕ → Float
at n k = units binary64 false (nearest (n / (1 * 2 ^ k)) (compare (n % (1 * 2 ^ k) * 2) (1 * 2 ^ k))) k

round_at : (num : ℕ) → round binary64 false num 1 ≡ at (num * 2 ^ 1074) (size (num * 2 ^ 1074 / 1) - 53)
unfolding round
round_at num = refl

dropped : (n : ℕ) → 2 ^ 1127 ≤ n → n < 2 ^ 1128 → size n - 53 ≡ 1075
dropped n low high = omega (arith, size-le n 1128 high, size_gt n 1127 low)

-- an odd number above 2 ^ 53 is no double, and its even neighbour is nearest
even : round binary64 false 9007199254740993 1 ≡ round binary64 false 9007199254740992 1
even =
    round_at 9007199254740993
    ∙ ap (at (9007199254740993 * 2 ^ 1074)) (dropped (9007199254740993 * 2 ^ 1074 / 1) (lit≤ tt) (lit< tt))
    ∙ ap (λ (q : ℕ). units binary64 false q 1075) same
    ∙ sym (ap (at (9007199254740992 * 2 ^ 1074)) (dropped (9007199254740992 * 2 ^ 1074 / 1) (lit≤ tt) (lit< tt)))
    ∙ sym (round_at 9007199254740992)
  where
    same : nearest (9007199254740993 * 2 ^ 1074 / (1 * 2 ^ 1075)) (compare (9007199254740993 * 2 ^ 1074 % (1 * 2 ^ 1075) * 2) (1 * 2 ^ 1075)) ≡ nearest (9007199254740992 * 2 ^ 1074 / (1 * 2 ^ 1075)) (compare (9007199254740992 * 2 ^ 1074 % (1 * 2 ^ 1075) * 2) (1 * 2 ^ 1075))
    same = refl

whole : round binary64 false 9007199254740992 1 ≡ of_int binary64 (pos 9007199254740992)
unfolding of_int
whole = refl

pub rounded : path_rank (a ∷ w·x·y·z ∷ []) tall ≡ scored 9007199254740992
rounded = laid ∙ ap (λ (x : Float). Some (to_bits binary64 x)) (ap (λ (x : Float). add binary64 x (term 4 17)) first ∙ second ∙ even ∙ whole)
