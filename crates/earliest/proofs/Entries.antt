-- A turn of the loop that writes a laying out.
use Rattle.std.proofs.Common.{◌≡◌, ℕ, ◌+◌, ◌<◌, ◌≤◌, List, [], ◌∷◌, ◌++◌, length, drop, Some, None, Option, sym, refl, ap, ◌∙◌, append_assoc, append-nil, arith}
use Rattle.scopes.specs.declared.scope.Scope.{Scope}
use Rattle.rankings.specs.declared.Laid.{Laid}
use Rattle.rankings.specs.Layings as layings
use Rattle.rankings.specs.Layings.{atoms, LowestFit}
use Rattle.earliest.specs.Lowest.{Lowest, before, places, Placed}
use Rattle.rankings.specs.Places.{laid_scopes}
use Rattle.earliest.specs.Placement.{places_law}
use Rattle.earliest.proofs.Turns.{place_here, place_nowhere, all_laid}

-- the entries so far, with those of what is left of a path
abbrev pub joined : List Laid → List Scope → Option (List ℕ) → Option (List Laid)
joined ls path None = None
joined ls path (Some qs) = Some (ls ++ laid_scopes path qs)

-- laid on what is left of a stack from i on
abbrev pub listed : List Laid → List Scope → List Scope → ℕ → Option (List Laid)
listed ls path stack i = joined ls path (places path stack i)

abbrev pub entry : Scope → ℕ → Laid
entry s q = record { atoms = atoms s; position = q }

joined_before : (ls : List Laid) (s : Scope) (path : List Scope) (i : ℕ) (o : Option (List ℕ)) → joined ls (s ∷ path) (before i o) ≡ joined (ls ++ entry s i ∷ []) path o
joined_before ls s path i None = refl
joined_before ls s path i (Some qs) = ap Some (sym (append_assoc ls (entry s i ∷ []) (laid_scopes path qs)))

pub list_here : (ls : List Laid) (s : Scope) (path left stack : List Scope) (from q : ℕ) → path ≡ s ∷ left → LowestFit s (drop from stack) (Some q)
    → listed (ls ++ entry s (from + q) ∷ []) left (drop (from + q + 1) stack) (from + q + 1) ≡ listed ls path (drop from stack) from
list_here ls s path left stack from q e f =
    let o = places left (drop (from + q + 1) stack) (from + q + 1) in
    sym (ap (joined ls path) (place_here s path left stack from q e f)
    ∙ ap (λ (ys : List Scope). joined ls ys (before (from + q) o)) e
    ∙ joined_before ls s left (from + q) o)

pub list_nowhere : (ls : List Laid) (s : Scope) (path left stack : List Scope) (from : ℕ) → path ≡ s ∷ left → LowestFit s (drop from stack) None
    → listed ls path (drop from stack) from ≡ None
list_nowhere ls s path left stack from e f = ap (joined ls path) (place_nowhere s path left stack from e f)

none_laid : (path : List Scope) → laid_scopes path [] ≡ []
none_laid [] = refl
none_laid (s ∷ path) = refl

pub list_all : (ls : List Laid) (path stack : List Scope) (k i : ℕ) → length path ≤ k → listed ls (drop k path) stack i ≡ Some ls
list_all ls path stack k i e =
    ap (joined ls (drop k path)) (all_laid path stack k i e) ∙ ap (λ (xs : List Laid). Some (ls ++ xs)) (none_laid (drop k path)) ∙ ap Some (append-nil ls)

-- ---- what the entries are
none_some : {x : List Laid} → ◌≡◌ {A = Option (List Laid)} None (Some x) → ⊥
none_some e = let z : ◌≡◌ {A = ℕ} 0 1 = cc in omega arith

pub empty : (path : List Scope) → length path ≡ 0 → path ≡ []
empty [] e = refl
empty (s ∷ path) e = absurd (omega arith)

pub some_there : (path : List Scope) → 0 < length path → path ≡ [] → ⊥
some_there path h e = omega (arith, ap length e)

pub lowest_listed : (path stack : List Scope) (ls : List Laid) → listed [] path stack 0 ≡ Some ls → (qs : List ℕ) × Lowest path stack qs × (ls ≡ laid_scopes path qs)
lowest_listed path stack ls = go (places path stack 0) (places_law path stack)
  where
    go : (o : Option (List ℕ)) → Placed path stack o → joined [] path o ≡ Some ls → (qs : List ℕ) × Lowest path stack qs × (ls ≡ laid_scopes path qs)
    go None law e = absurd (none_some e)
    go (Some qs) law e = (qs, law, (let v : ls ≡ laid_scopes path qs = cc in v))

pub none_listed : (path stack : List Scope) → listed [] path stack 0 ≡ None → layings.Layable path stack → ⊥
none_listed path stack = go (places path stack 0) (places_law path stack)
  where
    go : (o : Option (List ℕ)) → Placed path stack o → joined [] path o ≡ None → layings.Layable path stack → ⊥
    go None law e l = law l
    go (Some qs) law e l = none_some (sym e)
