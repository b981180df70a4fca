-- Texts are lists of bytes. A word is some bytes other than the blank, and words are parted by blanks.
use Rattle.std.specs.Prelude.{◌≡◌, ℕ, ◌+◌, ◌⊎◌, List, [], ◌∷◌, ◌++◌, length, ◌≢◌}
use Rattle.std.specs.List.{AllByRecursion}

-- nothing, or a blank and more
abbrev pub Ended : List ℕ → Type 0
Ended rest = (rest ≡ []) ⊎ ((more : List ℕ) × (rest ≡ 32 ∷ more))

-- a text is some blanks, then the word w, then the rest; where there is no word, both are empty
pub record Word (text w rest : List ℕ) : Type 0 where
  pub blanks : List ℕ
  pub whole : text ≡ blanks ++ (w ++ rest)
  pub before : AllByRecursion (λ b. b ≡ 32) blanks
  pub plain : AllByRecursion (λ b. b ≢ 32) w
  pub ended : Ended rest
  pub none : w ≡ [] → rest ≡ []

-- no other word, and no other rest
abbrev pub WordOnce : List ℕ → List ℕ → List ℕ → Type 0
WordOnce text w rest = (v more : List ℕ) → Word text v more → (v ≡ w) × (more ≡ rest)

-- the word stands at `at` in a line of `size` bytes, of which the text is the end
pub record Found (size : ℕ) (text w rest : List ℕ) (at : ℕ) : Type 0 where
  pub word : Word text w rest
  pub place : at + (length w + length rest) ≡ size
