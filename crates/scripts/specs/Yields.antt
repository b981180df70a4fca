-- What the iterator over a text's words gives.
use Rattle.std.specs.Prelude.{◌≡◌, ℕ, List, [], Some, None, Option}
use Rattle.std.specs.Borrow.{Bor}
use Rattle.scripts.specs.declared.words.Words.{Words}
use Rattle.scripts.specs.Words.{Word, Found}

-- what is left of the text, and how many bytes the whole of it has
abbrev pub left_of : Words → List ℕ
left_of s = s.rest.text.now

abbrev pub size_of : Words → ℕ
size_of s = s.rest.size

-- a turn gives the first word of what is left and its place in the whole text, or nothing where there is no word
abbrev pub GivesWord : Words → Option (ℕ × Bor (List ℕ)) → Words → Type 0
GivesWord s None t = Word (left_of s) [] [] × (t ≡ s)
GivesWord s (Some p) t = Found (size_of s) (left_of s) p.1.now (left_of t) p.0 × (p.1.now ≡ [] → ⊥) × (size_of t ≡ size_of s)
