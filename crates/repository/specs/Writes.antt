-- A scope's name, and what `write` answers and leaves.
use Rattle.std.specs.Prelude.{◌≡◌, ℕ, ◌-◌, Bool, true, not, ◌&&◌, List, [], ◌∷◌, ◌++◌, map, length, drop, Some, None, Ok, Err, Option, Result, nat_le, nat_lt, slice_index_or}
use Rattle.scopes.specs.declared.scope.Scope.{Scope}
use Rattle.scopes.specs.Scopes.{atoms_in}
use Rattle.repository.specs.declared.faults.WriteFault.{WriteFault}
use Rattle.repository.specs.declared.faults.WriteFault.TheVariants.{UnknownAtom, ShortOutput}
use Rattle.repository.specs.Names.{Atoms, dotted}
use Rattle.repository.specs.Refusals.{first, write_number}

-- whether the number in each field was given out
abbrev pub given : Atoms → List ℕ → Bool
given held [] = true
given held (f ∷ fs) = nat_le f (length held) && given held fs

-- the text of the atom in each field
abbrev pub texts : Atoms → List ℕ → Atoms
texts held fs = map (λ f. slice_index_or held (f - 1) []) fs

-- a scope's name: its atoms joined by dots
abbrev pub spelling : Atoms → Scope → List ℕ
spelling held s = dotted (texts held (atoms_in s))

-- the refusal of a writing to an output of some length, if any
abbrev pub write_refusal : Atoms → Scope → ℕ → Option ℕ
write_refusal held s room = first ((write_number UnknownAtom, not (given held (atoms_in s))) ∷ (write_number ShortOutput, nat_lt room (length (spelling held s))) ∷ [])

-- no refusal applies, the name stands at the output's beginning, and behind it the output is as it was
pub record Written (held : Atoms) (s : Scope) (before : List ℕ) (count : ℕ) (after : List ℕ) : Type 0 where
  pub unrefused : write_refusal held s (length before) ≡ None
  pub long : count ≡ length (spelling held s)
  pub output : after ≡ spelling held s ++ drop count before

-- the first refusal that applies, and the output is as it was
pub record Unwritten (held : Atoms) (s : Scope) (before : List ℕ) (f : WriteFault) (after : List ℕ) : Type 0 where
  pub first : write_refusal held s (length before) ≡ Some (write_number f)
  pub output : after ≡ before

abbrev pub Writes : Atoms → Scope → List ℕ → Result ℕ WriteFault → List ℕ → Type 0
Writes held s before (Ok n) after = Written held s before n after
Writes held s before (Err f) after = Unwritten held s before f after
