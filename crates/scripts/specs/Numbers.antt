-- Numbers in decimal digits, most significant first.
use Rattle.std.specs.Prelude.{◌≡◌, ℕ, ◌^◌, ◌<◌, List, length}
use Rattle.std.specs.Str.Parse.{digits_value}
use Rattle.std.specs.Int.{IsInRange}
use Rattle.std.specs.List.{AllByRecursion}

-- w is one digit or more and nothing else, and n is the number that they write, below 2^64
pub record Number (w : List ℕ) (n : ℕ) : Type 0 where
  pub some : 0 < length w
  pub digits : AllByRecursion (IsInRange 48 57) w
  pub is : n ≡ digits_value 10 w
  pub small : n < 2 ^ 64

abbrev pub NoNumber : List ℕ → Type 0
NoNumber w = (n : ℕ) → Number w n → ⊥
