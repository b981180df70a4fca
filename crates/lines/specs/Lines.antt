-- Texts are lists of bytes.
use Rattle.std.specs.Prelude.{if◌then◌else◌, ◌≡◌, ℕ, ◌-◌, ◌<◌, ◌≤◌, Bool, true, false, ◌&&◌, ◌||◌, ◌⊎◌, List, [], ◌∷◌, ◌++◌, length, ◌==◌, ◌≢◌, nat_le, slice_index, slice_range}
use Rattle.std.specs.List.{AllByRecursion, onto_first}

-- white space: the bytes 9 to 13, and the blank
abbrev pub white : ℕ → Bool
white b = b == 32 || (nat_le 9 b && nat_le b 13)

-- `front` holds no such byte; it is all of the text, with nothing behind it, or the first such byte and `rest` follow
pub record Splits (text : List ℕ) (byte : ℕ) (front rest : List ℕ) : Type 0 where
  pub plain : AllByRecursion (λ b. b ≢ byte) front
  pub whole : ((text ≡ front) × (rest ≡ [])) ⊎ (text ≡ front ++ byte ∷ rest)

-- r is the text from `from` to `to`: it neither begins nor ends with white space, and outside is nothing else
pub record Trimmed (text r : List ℕ) : Type 0 where
  pub from : ℕ
  pub to : ℕ
  pub is : r ≡ slice_range text from to
  pub rising : from ≤ to
  pub within : to ≤ length text
  pub before : (k : ℕ) → k < from → white (slice_index text k) ≡ true
  pub behind : (k : ℕ) → to ≤ k → k < length text → white (slice_index text k) ≡ true
  pub first : from < to → white (slice_index text from) ≡ false
  pub last : from < to → white (slice_index text (to - 1)) ≡ false

-- the stretches of a text that a byte ends, in turn, as its lines; the end of the text may end the last, and then it is not empty
abbrev pub stretches : ℕ → List ℕ → List (List ℕ)
stretches byte [] = []
stretches byte (b ∷ rest) = if b == byte then [] ∷ stretches byte rest else onto_first b (stretches byte rest)

-- the return at the end of a line is left out, if there is one; 13 is the carriage return
abbrev pub WithoutReturn : List ℕ → List ℕ → Type 0
WithoutReturn line text = (line ≡ text ++ 13 ∷ []) ⊎ ((text ≡ line) × ((front : List ℕ) → line ≢ front ++ 13 ∷ []))
