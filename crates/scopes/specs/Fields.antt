-- The words of a scope as a list of eight fields, first to last.
use Rattle.std.specs.Prelude.{◌≡◌, ℕ, ◌/◌, ◌%◌, ◌^◌, ◌<◌, Bool, true, false, cond, ◌&&◌, List, [], ◌∷◌, ◌++◌, length, ◌==◌, slice_index}

-- the four 16-bit fields of a word, most significant first
abbrev pub word_fields : ℕ → List ℕ
word_fields w = (w / 2 ^ 48) ∷ (w / 2 ^ 32) % 2 ^ 16 ∷ (w / 2 ^ 16) % 2 ^ 16 ∷ w % 2 ^ 16 ∷ []

-- the eight fields of two words
abbrev pub fields : ℕ → ℕ → List ℕ
fields a b = word_fields a ++ word_fields b

-- used fields come first: behind an unused one there is no used one
abbrev pub Gapless : List ℕ → Type 0
Gapless fs = (i j : ℕ) → i < j → j < length fs → slice_index fs i ≡ 0 → slice_index fs j ≡ 0

-- whether no field is used
abbrev pub unused : List ℕ → Bool
unused [] = true
unused (f ∷ fs) = cond (f == 0) (unused fs) false

-- whether the fields are gapless
abbrev pub packed : List ℕ → Bool
packed [] = true
packed (f ∷ fs) = cond (f == 0) (unused fs) (packed fs)

-- the fields before the first unused one
abbrev pub used : List ℕ → List ℕ
used [] = []
used (f ∷ fs) = cond (f == 0) [] (f ∷ used fs)

-- whether s starts with the list p
abbrev pub starts : List ℕ → List ℕ → Bool
starts [] s = true
starts (x ∷ p) [] = false
starts (x ∷ p) (y ∷ s) = x == y && starts p s
