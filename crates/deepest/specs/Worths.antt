-- What a laying is worth: a number of 64 digits, each of four bits, the digit of position 63 first.
use Rattle.std.specs.Prelude.{ℕ, ◌+◌, ◌-◌, ◌*◌, ◌/◌, ◌%◌, ◌^◌, ◌<◌, ◌≤◌, min, List, [], ◌∷◌}
use Rattle.scopes.specs.declared.scope.Scope.{Scope}
use Rattle.rankings.specs.Layings.{atoms}
use Rattle.deepest.specs.declared.Digits.{Digits}

-- a path laid at some positions: the digit at each is how many atoms lie there
abbrev pub worth : List Scope → List ℕ → ℕ
worth [] qs = 0
worth (s ∷ path) [] = 0
worth (s ∷ path) (q ∷ qs) = atoms s * 2 ^ (4 * q) + worth path qs

-- the four words as one whole number
abbrev pub value : Digits → ℕ
value d = d.top * 2 ^ 192 + d.upper * 2 ^ 128 + d.lower * 2 ^ 64 + d.bottom

-- each word has 64 bits
pub record Words (d : Digits) : Type 0 where
  pub top : d.top < 2 ^ 64
  pub upper : d.upper < 2 ^ 64
  pub lower : d.lower < 2 ^ 64
  pub bottom : d.bottom < 2 ^ 64

-- the words of a whole number
abbrev pub digits : ℕ → Digits
digits v = record { top = v / 2 ^ 192; upper = v / 2 ^ 128 % 2 ^ 64; lower = v / 2 ^ 64 % 2 ^ 64; bottom = v % 2 ^ 64 }

-- the digits of one scope of n atoms at a position
abbrev pub lone_digits : ℕ → ℕ → Digits
lone_digits n position = digits (n * 2 ^ (4 * position))

-- word j, which holds the digits of the positions from 16 * j on, has room for those below k, for any k up to i
abbrev pub RoomAt : ℕ → ℕ → ℕ → Type 0
RoomAt j w i = (k : ℕ) → k ≤ i → w + 2 ^ (4 * min 16 (k - 16 * j)) ≤ 2 ^ 64

-- each word has
pub record Room (d : Digits) (i : ℕ) : Type 0 where
  pub top : RoomAt 3 d.top i
  pub upper : RoomAt 2 d.upper i
  pub lower : RoomAt 1 d.lower i
  pub bottom : RoomAt 0 d.bottom i
