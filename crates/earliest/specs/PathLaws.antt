-- What is promised of a path's rank.
use Rattle.std.specs.Prelude.{◌≡◌, ℕ, ◌<◌, ◌≤◌, List, [], ◌∷◌, length, Some, None, Option, ◌≢◌, to_bits, refl}
use Rattle.std.proofs.Common.{sym, ap, ◌∙◌, arith}
use Rattle.std.specs.Float.{binary64}
use Rattle.std.specs.Float.Ieee.Positive.{num, den}
use Rattle.scopes.specs.declared.scope.Scope.{Scope}
use Rattle.rankings.specs.Layings.{atoms, FitsAt, Lays, Layable}
use Rattle.rankings.specs.Ranks.{Answers}
use Rattle.earliest.specs.Scores.{zero64, summed, score, lone_rank}
use Rattle.earliest.specs.Lowest.{Lowest, places, Placed}
use Rattle.earliest.specs.Ranks.{bits, path_rank, ByLowest, Finite, Whole, ScoresOrder}
use Rattle.rankings.proofs.Atoms.{atoms_few}
use Rattle.earliest.specs.BitOrder.{bits_order, unsigned_of_value}
use Rattle.earliest.specs.Placement.{places_law, lowest_one}
use Rattle.earliest.specs.Sums.{score_value, score_fits, score_finite, score_exact, plus_zero}

not_empty : (s : Scope) (path : List Scope) → s ∷ path ≢ []
not_empty s path e = let z : ◌≡◌ {A = ℕ} 0 1 = cc in omega arith

none_some : {r : ℕ} → ◌≡◌ {A = Option ℕ} None (Some r) → ⊥
none_some e = let z : ◌≡◌ {A = ℕ} 0 1 = cc in omega arith

pub by_lowest : (path stack : List Scope) → ByLowest path stack (path_rank path stack)
by_lowest [] stack = λ (n : ◌≡◌ {A = List Scope} [] [] → ⊥) (l : Layable [] stack). n refl
by_lowest (s ∷ path) stack = go (places (s ∷ path) stack 0) (places_law (s ∷ path) stack)
  where
    go : (o : Option (List ℕ)) → Placed (s ∷ path) stack o → ByLowest (s ∷ path) stack (bits zero64 (s ∷ path) o)
    go None p = λ (n : s ∷ path ≡ [] → ⊥) (l : Layable (s ∷ path) stack). p l
    go (Some qs) p = (not_empty s path, (qs, p, refl))

pub finite_all : (path stack : List Scope) → length stack ≤ 64 → Finite path stack
finite_all path stack h = λ (qs : List ℕ) (l : Lays stack 0 path qs). score_finite path stack qs h l

pub whole_all : (path stack : List Scope) → Whole path stack (path_rank path stack)
whole_all [] stack = tt
whole_all (s ∷ path) stack = go (places (s ∷ path) stack 0) (places_law (s ∷ path) stack)
  where
    go : (o : Option (List ℕ)) → Placed (s ∷ path) stack o → Whole (s ∷ path) stack (bits zero64 (s ∷ path) o)
    go None p = tt
    go (Some rs) p =
        λ (h : length stack ≤ 17) (qs : List ℕ) (l : Lowest (s ∷ path) stack qs).
        ap (λ (ks : List ℕ). to_bits binary64 (score (s ∷ path) ks)) (lowest_one (s ∷ path) stack rs qs p l)
        ∙ ap (to_bits binary64) (score_exact (s ∷ path) stack qs h l.lays)

pub scores_order : ScoresOrder
scores_order p q stack other qs rs h k l m =
    let x = score p qs in
    let y = score q rs in
    bits_order x y
    (unsigned_of_value x (num x) (den x) (score_value p stack qs h l))
    (unsigned_of_value y (num y) (den y) (score_value q other rs k m))
    (score_fits p qs) (score_fits q rs)

pub answers : (path stack : List Scope) → Answers path stack (path_rank path stack)
answers path stack = go (path_rank path stack) (by_lowest path stack)
  where
    go : (o : Option ℕ) → ByLowest path stack o → Answers path stack o
    go None b = b
    go (Some r) b = (b.0, (b.1.0, b.1.1.lays))

pub single : (s : Scope) (stack : List Scope) (r : ℕ) → length stack ≤ 64 → 1 ≤ atoms s → path_rank (s ∷ []) stack ≡ Some r → (i : ℕ) × FitsAt s stack i × (r ≡ lone_rank (atoms s) i)
single s stack r h o e = go (places (s ∷ []) stack 0) (places_law (s ∷ []) stack) e
  where
    at : (qs : List ℕ) → Lays stack 0 (s ∷ []) qs → to_bits binary64 (summed zero64 (s ∷ []) qs) ≡ r → (i : ℕ) × FitsAt s stack i × (r ≡ lone_rank (atoms s) i)
    at [] l f = absurd l
    at (q ∷ []) l f =
        let low : q < 64 = omega (arith, l.1.within) in
        (q, l.1, sym f ∙ ap (to_bits binary64) (plus_zero (atoms s) q o (atoms_few s) low))
    at (q ∷ (p ∷ qs)) l f = absurd l.2

    go : (p : Option (List ℕ)) → Placed (s ∷ []) stack p → bits zero64 (s ∷ []) p ≡ Some r → (i : ℕ) × FitsAt s stack i × (r ≡ lone_rank (atoms s) i)
    go None l f = absurd (none_some f)
    go (Some qs) l f = at qs l.lays (let v : to_bits binary64 (summed zero64 (s ∷ []) qs) ≡ r = cc in v)
