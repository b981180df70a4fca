-- A turn of the loop that lays a path and adds its terms.
use Rattle.std.proofs.Common.{◌≡◌, ℕ, ◌+◌, ◌<◌, ◌≤◌, List, [], ◌∷◌, length, drop, Some, None, Option, sym, refl, ap, ◌∙◌, arith}
use Rattle.std.specs.Prelude.{to_bits, Float}
use Rattle.std.specs.Float.{binary64}
use Rattle.scopes.specs.declared.scope.Scope.{Scope}
use Rattle.rankings.specs.Layings.{atoms, LowestFit}
use Rattle.earliest.specs.Scores.{zero64, plus, summed}
use Rattle.earliest.specs.Lowest.{before, places}
use Rattle.earliest.specs.Ranks.{bits, path_rank}
use Rattle.earliest.proofs.Turns.{place_here, place_nowhere, all_laid}

-- the bits of what is left of a path, laid on what is left of a stack from i on and added to x
abbrev pub rest : Float → List Scope → List Scope → ℕ → Option ℕ
rest x path stack i = bits x path (places path stack i)

bits_before : (x : Float) (s : Scope) (path : List Scope) (i : ℕ) (o : Option (List ℕ)) → bits x (s ∷ path) (before i o) ≡ bits (plus x (atoms s) i) path o
bits_before x s path i None = refl
bits_before x s path i (Some qs) = refl

pub add_here : (x : Float) (s : Scope) (path left stack : List Scope) (from q : ℕ) → path ≡ s ∷ left → LowestFit s (drop from stack) (Some q)
    → rest (plus x (atoms s) (from + q)) left (drop (from + q + 1) stack) (from + q + 1) ≡ rest x path (drop from stack) from
add_here x s path left stack from q e f =
    let o = places left (drop (from + q + 1) stack) (from + q + 1) in
    sym (ap (bits x path) (place_here s path left stack from q e f)
    ∙ ap (λ (ys : List Scope). bits x ys (before (from + q) o)) e
    ∙ bits_before x s left (from + q) o)

pub add_nowhere : (x : Float) (s : Scope) (path left stack : List Scope) (from : ℕ) → path ≡ s ∷ left → LowestFit s (drop from stack) None
    → rest x path (drop from stack) from ≡ None
add_nowhere x s path left stack from e f = ap (bits x path) (place_nowhere s path left stack from e f)

summed_none : (x : Float) (path : List Scope) → summed x path [] ≡ x
summed_none x [] = refl
summed_none x (s ∷ path) = refl

pub add_all : (x : Float) (path stack : List Scope) (k i : ℕ) → length path ≤ k → rest x (drop k path) stack i ≡ Some (to_bits binary64 x)
add_all x path stack k i e =
    ap (bits x (drop k path)) (all_laid path stack k i e) ∙ ap (λ (y : Float). Some (to_bits binary64 y)) (summed_none x (drop k path))

pub add_whole_path : (path stack : List Scope) → 0 < length path → rest zero64 path stack 0 ≡ path_rank path stack
add_whole_path [] stack h = absurd (omega arith)
add_whole_path (s ∷ path) stack h = refl
