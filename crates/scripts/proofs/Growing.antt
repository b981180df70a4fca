-- Numbers, a digit at a time.
use Rattle.std.proofs.Common.{◌≡◌, ℕ, ◌+◌, ◌-◌, ◌*◌, ◌^◌, ◌<◌, ◌≤◌, List, length, get_or, take, ap, ◌∙◌, subst, arith}
use Rattle.std.specs.Str.Parse.{digits_value}
use Rattle.std.specs.Int.{IsInRange}
use Rattle.std.specs.List.{AllByRecursion}
use Rattle.std.proofs.lemmas.Int.Digits.{digits_value_more}
use Rattle.std.proofs.lemmas.Str.{digit_value_digit}
use Rattle.std.proofs.lemmas.Str.Parse.{digits_value-take-le}
use Rattle.std.proofs.ByRecursion.{All-get_or, All-more}
use Rattle.std.proofs.lemmas.List.{take_all}
use Rattle.scripts.specs.Numbers.{Number, NoNumber}

-- n is the number that the first i digits write
abbrev pub SoFar : List ℕ → ℕ → ℕ → Type 0
SoFar w i n = AllByRecursion (IsInRange 48 57) (take i w) × (n ≡ digits_value 10 (take i w)) × (n < 2 ^ 64)

module _ (w : List ℕ) (i : ℕ) (lt : i < length w) where
  value_next : IsInRange 48 57 (get_or w i 0) → digits_value 10 (take (i + 1) w) ≡ digits_value 10 (take i w) * 10 + (get_or w i 0 - 48)
  value_next h = omega (arith, digits_value_more 10 w i lt, digit_value_digit (get_or w i 0) h)

  pub no_number : (n : ℕ) → n ≡ digits_value 10 (take i w) → (IsInRange 48 57 (get_or w i 0) → 2 ^ 64 ≤ n * 10 + (get_or w i 0 - 48)) → NoNumber w
  no_number n is large m h =
      let digit = All-get_or (IsInRange 48 57) w i 0 lt h.digits in
      omega (arith, large digit, value_next digit, digits_value-take-le 10 w (i + 1) (omega arith), h.is, h.small)

  pub number_next : (n m : ℕ) → SoFar w i n → IsInRange 48 57 (get_or w i 0) × (m ≡ n * 10 + (get_or w i 0 - 48)) × (m < 2 ^ 64) → SoFar w (i + 1) m
  number_next n m inv h = (All-more (IsInRange 48 57) w i 0 lt inv.0 h.0, omega (arith, value_next h.0), h.2)

pub number_all : (w : List ℕ) (i n : ℕ) → 0 < length w → length w ≤ i → SoFar w i n → Number w n
number_all w i n some le inv =
    let all = take_all i w le in
    record { some = some; digits = subst (AllByRecursion (IsInRange 48 57)) all inv.0; is = inv.1 ∙ ap (digits_value 10) all; small = inv.2 }
