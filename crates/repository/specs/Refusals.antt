-- Each refusal by its number, and when it applies.
use Rattle.std.specs.Prelude.{ℕ, Bool, cond, not, List, [], ◌∷◌, ◌++◌, length, Some, None, Option, nat_lt}
use Rattle.repository.specs.declared.faults.NameFault.{NameFault}
use Rattle.repository.specs.declared.faults.NameFault.TheVariants.{NotAscii, TooLong, TooManyAtoms, TooMuchText}
use Rattle.repository.specs.declared.faults.WriteFault.{WriteFault}
use Rattle.repository.specs.declared.faults.WriteFault.TheVariants.{UnknownAtom, ShortOutput}
use Rattle.repository.specs.Names.{Atoms, ascii, cut}
use Rattle.repository.specs.Atoms.{news, total}

-- the number of each refusal of a name
abbrev pub name_number : NameFault → ℕ
name_number NotAscii = 1
name_number TooLong = 2
name_number TooManyAtoms = 3
name_number TooMuchText = 4

-- and of each refusal of a writing
abbrev pub write_number : WriteFault → ℕ
write_number UnknownAtom = 6
write_number ShortOutput = 7

-- the number of the first condition that holds
abbrev pub first : List (ℕ × Bool) → Option ℕ
first [] = None
first (c ∷ more) = cond c.1 (Some c.0) (first more)

-- the atoms held, and behind them the name's new ones
abbrev pub known : Atoms → List ℕ → Atoms
known held name = held ++ news held (cut name)

-- the refusal of a name, if any
abbrev pub refusal : Atoms → List ℕ → Option ℕ
refusal held name =
    first
    (
    (name_number NotAscii, not (ascii name))
    ∷ (name_number TooLong, nat_lt 8 (length (cut name)))
    ∷ (name_number TooManyAtoms, nat_lt 4096 (length (known held name)))
    ∷ (name_number TooMuchText, nat_lt 65536 (total (known held name)))
    ∷ []
    )
