-- A name that was written is the scope's.
use Rattle.std.proofs.Common.{◌≡◌, ◌↔◌, ℕ, ◌≤◌, Bool, true, false, not, IsTrue, List, [], ◌∷◌, None, length, take, drop, sym, refl, ap, ◌∙◌, arith}
use Rattle.std.proofs.lemmas.Bool.{ltb-false}
use Rattle.std.proofs.lemmas.List.{take_at}
use Rattle.scopes.specs.declared.scope.Scope.{Scope}
use Rattle.scopes.specs.Scopes.{atoms_in}
use Rattle.repository.specs.Names.{Atoms}
use Rattle.repository.specs.Refusals.{first}
use Rattle.repository.specs.Writes.{Written, given, spelling, write_refusal}
use Rattle.records.specs.WrittenBack.{IsNameOf}

none_of : (g short : Bool) → first ((6, not g) ∷ (7, short) ∷ []) ≡ None → (g ≡ true) × (short ≡ false)
none_of true true e = absurd (cc)
none_of true false e = (refl, refl)
none_of false short e = absurd (cc)

-- what no refusal means
admitted : (held : Atoms) (s : Scope) (room : ℕ) → write_refusal held s room ≡ None → (given held (atoms_in s) ≡ true) × (length (spelling held s) ≤ room)
admitted held s room e = let n = none_of (given held (atoms_in s)) _ e in (n.0, ltb-false room (length (spelling held s)) n.1)

pub name_of : {held : Atoms} {s : Scope} {before after name : List ℕ} {count : ℕ} (same : Bool) → Written held s before count after → length before ≡ 1024 → (IsTrue same ↔ (take count after ≡ name)) → IsTrue same ↔ IsNameOf held s name
name_of {held} {s} {before} {after} {name} {count} same w long told =
    let front : take count after ≡ spelling held s = ap (take count) w.output ∙ take_at (spelling held s) (drop count before) count (sym w.long) in
    let no_refusal = admitted held s (length before) w.unrefused in (
      (λ yes. let is : spelling held s ≡ name = sym front ∙ told.0 yes in record { given = no_refusal.0; spelled = is; short = omega (arith, ap length is, no_refusal.1) }),
      (λ n. told.1 (front ∙ n.spelled)),
    )
