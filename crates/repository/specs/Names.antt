-- How a name is cut into atoms. A name is a list of bytes, and 46 is the dot.
use Rattle.std.specs.Prelude.{ℕ, zero, suc, Bool, true, cond, ◌&&◌, List, [], ◌∷◌, ◌++◌, ◌==◌, nat_lt}
use Rattle.std.specs.List.{flat_map}

-- an atom is the list of its bytes
abbrev pub Atom : Type 0
Atom = List ℕ

abbrev pub Atoms : Type 0
Atoms = List Atom

-- whether each byte is below 128
abbrev pub ascii : List ℕ → Bool
ascii [] = true
ascii (b ∷ bs) = nat_lt b 128 && ascii bs

-- whether each byte is a dot
abbrev pub dots : List ℕ → Bool
dots [] = true
dots (b ∷ bs) = b == 46 && dots bs

-- a name without the dots at its end
abbrev pub stripped : List ℕ → List ℕ
stripped [] = []
stripped (b ∷ bs) = cond (dots (b ∷ bs)) [] (b ∷ stripped bs)

-- a byte put in front of the first of some atoms
abbrev pub before : ℕ → Atoms → Atoms
before b [] = (b ∷ []) ∷ []
before b (a ∷ rest) = (b ∷ a) ∷ rest

-- what stands between the dots
abbrev pub pieces : List ℕ → Atoms
pieces [] = [] ∷ []
pieces (b ∷ bs) = cond (b == 46) ([] ∷ pieces bs) (before b (pieces bs))

-- the atoms of a name: none of the empty name, else what stands between the dots but for those at its end
abbrev pub cut : List ℕ → Atoms
cut [] = []
cut (b ∷ bs) = pieces (stripped (b ∷ bs))

-- atoms joined by dots
abbrev pub dotted : Atoms → List ℕ
dotted [] = []
dotted (a ∷ rest) = a ++ flat_map (λ x. 46 ∷ x) rest

-- the atom of an index as it stands in a name: behind a dot, but for the first
abbrev pub led : ℕ → Atom → List ℕ
led zero a = a
led (suc i) a = 46 ∷ a
