-- A stack as its users know it: plain lists of scopes.
use Rattle.std.specs.Prelude.{◌≡◌, ℕ, ◌+◌, ◌≤◌, List, [], ◌∷◌, length, take, drop, sum}
use Rattle.scopes.specs.declared.scope.Scope.{Scope}

pub record Stack : Type 0 where
  -- the scopes on it, position 0 lowest
  pub scopes : List Scope
  -- what was set aside, oldest first, each in the order that it had on the stack
  pub asides : List (List Scope)

-- a stack of some scopes, with nothing set aside
abbrev pub started : List Scope → Stack
started xs = record { scopes = xs; asides = [] }

-- how many scopes are set aside
abbrev pub aside_count : List (List Scope) → ℕ
aside_count [] = 0
aside_count (x ∷ xs) = length x + aside_count xs

-- how many are on the stack or set aside
abbrev pub total : Stack → ℕ
total s = length s.scopes + aside_count s.asides

-- what every stack keeps to
pub record Within (s : Stack) : Type 0 where
  pub scopes : total s ≤ 64
  pub asides : length s.asides ≤ 64

-- pieces of some sizes, from the front of a list
abbrev pub cut : List ℕ → List Scope → List (List Scope)
cut [] xs = []
cut (n ∷ ns) xs = take n xs ∷ cut ns (drop n xs)

-- what its memory keeps to: the scopes on it, those set aside behind one another, and the size of each set-aside
pub record Kept (scopes aside : List Scope) (sizes : List ℕ) : Type 0 where
  pub fits : length scopes + length aside ≤ 64
  pub few : length sizes ≤ 64
  pub adds : sum sizes ≡ length aside
