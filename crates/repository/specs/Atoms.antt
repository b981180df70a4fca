-- Atoms are numbered from 0 as they are first seen: the held ones are a list, and an atom's number is its place there.
use Rattle.std.specs.Prelude.{ℕ, suc, ◌+◌, Bool, true, false, cond, List, [], ◌∷◌, ◌++◌, map, length}
use Rattle.std.specs.Str.{bytes_eq}
use Rattle.repository.specs.Names.{Atom, Atoms}

-- whether an atom is held
abbrev pub has : Atoms → Atom → Bool
has [] a = false
has (x ∷ xs) a = cond (bytes_eq x a) true (has xs a)

-- an atom's number: how many stand before the first that is it
abbrev pub place : Atoms → Atom → ℕ
place [] a = 0
place (x ∷ xs) a = cond (bytes_eq x a) 0 (suc (place xs a))

-- those of a name's atoms that are not held, each once, in the order in which they are first seen
abbrev pub news : Atoms → Atoms → Atoms
news held [] = []
news held (a ∷ rest) = cond (has held a) (news held rest) (a ∷ news (held ++ a ∷ []) rest)

-- the bytes of some atoms together
abbrev pub total : Atoms → ℕ
total [] = 0
total (a ∷ rest) = length a + total rest

-- the fields of atoms: each one's number plus one
abbrev pub fields_for : Atoms → Atoms → List ℕ
fields_for held atoms = map (λ a. place held a + 1) atoms

-- the atoms held once a is among them
abbrev pub seen : Atoms → Atom → Atoms
seen held a = cond (has held a) held (held ++ a ∷ [])

-- the atoms held once each of some has been seen, in turn
abbrev pub learned : Atoms → Atoms → Atoms
learned held [] = held
learned held (a ∷ rest) = learned (seen held a) rest
