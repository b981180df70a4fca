-- Set-asides that stand behind one another, cut by their sizes.
use Rattle.std.proofs.Common.{◌≡◌, ℕ, suc, ◌+◌, ◌-◌, ◌≤◌, List, [], ◌∷◌, ◌++◌, map, length, take, drop, sum, sym, refl, ap, ◌∙◌, arith, length-drop}
use Rattle.std.proofs.lemmas.List.{length-take-le, take_all, take-append-le, drop-append-le, take-append-drop}
use Rattle.std.proofs.lemmas.List.Sums.{sum_by-cons, sum_by_push}
use Rattle.scopes.specs.declared.scope.Scope.{Scope}
use Rattle.stacks.specs.Stacks.{cut, aside_count}

pub length_cut : (ns : List ℕ) (xs : List Scope) → length (cut ns xs) ≡ length ns
length_cut [] xs = refl
length_cut (n ∷ ns) xs = ap suc (length_cut ns (drop n xs))

pub aside_cut : (ns : List ℕ) (xs : List Scope) → sum ns ≤ length xs → aside_count (cut ns xs) ≡ sum ns
aside_cut [] xs h = refl
aside_cut (n ∷ ns) xs h =
    let e : sum (n ∷ ns) ≡ n + sum ns = sum_by-cons (λ x. x) n ns in
    let l : length (take n xs) ≡ n = length-take-le n xs (omega arith) in
    let d = length-drop n xs in
    let r : aside_count (cut ns (drop n xs)) ≡ sum ns = aside_cut ns (drop n xs) (omega arith) in
    omega arith

-- one set-aside more behind the others
pub cut_push : (ns : List ℕ) (xs zs : List Scope) → sum ns ≡ length xs → cut (ns ++ length zs ∷ []) (xs ++ zs) ≡ cut ns xs ++ zs ∷ []
cut_push [] [] zs h = ap (λ ys. ys ∷ []) (take_all (length zs) zs (omega arith))
cut_push [] (x ∷ xs) zs h = absurd (omega (arith, h))
cut_push (n ∷ ns) xs zs h =
    let e : sum (n ∷ ns) ≡ n + sum ns = sum_by-cons (λ x. x) n ns in
    let few : n ≤ length xs = omega arith in
    let rest : sum ns ≡ length (drop n xs) = omega (arith, length-drop n xs) in
    rw (take-append-le n xs zs few, drop-append-le n xs zs few) (ap (λ ys. take n xs ∷ ys) (cut_push ns (drop n xs) zs rest))

-- the newest set-aside taken off
pub cut_pop : (sizes ns : List ℕ) (n : ℕ) (xs : List Scope) → sizes ≡ ns ++ n ∷ [] → sum sizes ≡ length xs → cut sizes xs ≡ cut ns (take (length xs - n) xs) ++ drop (length xs - n) xs ∷ []
cut_pop sizes ns n xs e h =
    let left = length xs - n in
    let all : sum sizes ≡ sum ns + n = ap sum e ∙ sum_by_push (λ x. x) ns n in
    let size : length (drop left xs) ≡ n = omega (arith, length-drop left xs) in
    let low : sum ns ≡ length (take left xs) = omega (arith, length-take-le left xs (omega arith)) in
    ap (λ m. cut m xs) e ∙ (λ i. cut (ns ++ sym size i ∷ []) (sym (take-append-drop left xs) i)) ∙ cut_push ns (take left xs) (drop left xs) low

pub sizes_cut : (ns : List ℕ) (xs : List Scope) → sum ns ≤ length xs → map length (cut ns xs) ≡ ns
sizes_cut [] xs h = refl
sizes_cut (n ∷ ns) xs h =
    let e : sum (n ∷ ns) ≡ n + sum ns = sum_by-cons (λ x. x) n ns in
    let l : length (take n xs) ≡ n = length-take-le n xs (omega arith) in
    let d = length-drop n xs in
    let r : map length (cut ns (drop n xs)) ≡ ns = sizes_cut ns (drop n xs) (omega arith) in
    λ i. l i ∷ r i
