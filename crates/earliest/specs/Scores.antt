-- The score of a laying, as a double of IEEE 754's binary64.
use Rattle.std.specs.Prelude.{◌≡◌, ℕ, zero, suc, ◌+◌, ◌*◌, ◌^◌, Bool, false, not, T, List, [], ◌∷◌, pos, nat_le, to_bits, Float}
use Rattle.std.specs.Float.{nan, inf, fin, binary64}
use Rattle.std.specs.Float.Ieee.{round, add, fits, le}
use Rattle.scopes.specs.declared.scope.Scope.{Scope}
use Rattle.rankings.specs.Layings.{atoms}

-- the double nearest to n * 2 ^ (3 * p)
abbrev pub term : ℕ → ℕ → Float
term n p = round binary64 false (n * 2 ^ (3 * p)) 1

-- the sum of nothing
abbrev pub zero64 : Float
zero64 = fin false 0 (pos 0)

-- a sum with the term of n atoms at p added, rounded once; no atoms add nothing
abbrev pub plus : Float → ℕ → ℕ → Float
plus x zero p = x
plus x (suc n) p = add binary64 x (term (suc n) p)

-- the terms of a path's scopes at their positions added to x, from the first on
abbrev pub summed : Float → List Scope → List ℕ → Float
summed x [] qs = x
summed x (s ∷ path) [] = x
summed x (s ∷ path) (q ∷ qs) = summed (plus x (atoms s) q) path qs

-- the score of a path laid at some positions
abbrev pub score : List Scope → List ℕ → Float
score path qs = summed zero64 path qs

-- the whole number that a score stands for
abbrev pub exact : List Scope → List ℕ → ℕ
exact [] qs = 0
exact (s ∷ path) [] = 0
exact (s ∷ path) (q ∷ qs) = atoms s * 2 ^ (3 * q) + exact path qs

-- the rank of a scope of n atoms at p
abbrev pub lone_rank : ℕ → ℕ → ℕ
lone_rank n p = to_bits binary64 (term n p)

-- a number with its sign clear: zero or above
abbrev pub unsigned : Float → Bool
unsigned nan = false
unsigned (inf s) = false
unsigned (fin s m e) = not s

-- of such doubles, the order of the bits is that of the doubles
abbrev pub BitsOrder : Type 0
BitsOrder = (x y : Float) → T (unsigned x) → T (unsigned y) → T (fits binary64 x) → T (fits binary64 y) → nat_le (to_bits binary64 x) (to_bits binary64 y) ≡ le x y
