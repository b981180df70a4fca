use Rattle.std.proofs.Common.{◌≡◌, ℕ, ◌+◌, ◌<◌, List, [], ◌∷◌, ◌++◌, length, set, take, drop, Some, None, sym, refl, ap, ◌∙◌, subst, arith, rules, length-set, length-drop}
use Rattle.std.proofs.lemmas.List.{take_rest, take_more_set}
use Rattle.scopes.specs.declared.scope.Scope.{Scope}
use Rattle.rankings.specs.declared.Laid.{Laid}
use Rattle.rankings.specs.Layings.{LowestFit}
use Rattle.earliest.proofs.Turns.{next_scope}
use Rattle.earliest.proofs.Entries.{listed, entry, list_here, list_nowhere, list_all, some_there, lowest_listed, none_listed}
use Rattle.earliest.proofs.places.lay_on.Goals as goal

pub returns-in_err-position : goal.returns-in_err-position
returns-in_err-position c =
    let path = c.args.path.now in
    let stack = c.args.stack.now in
    let k = c.loop-k.k in
    let from = c.loop-k.from in
    let s = c.index-path-k.result in
    let next = next_scope path k s c.loop-k-test.true c.index-path-k.is in
    let none = subst (λ (ys : List Scope). LowestFit s ys None) (take_rest stack from) c.in_err-position.ensures in
    rw c.from_residual.ensures
    (λ _. none_listed path stack
    (sym c.loop-k.invariant.3 ∙ list_nowhere (take k c.loop-k.laid) s (drop k path) (drop (k + 1) path) stack from next none))

pub loop-k-preserved : goal.loop-k-preserved
loop-k-preserved c =
    let path = c.args.path.now in
    let stack = c.args.stack.now in
    let k = c.loop-k.k in
    let from = c.loop-k.from in
    let laid = c.loop-k.laid in
    let s = c.index-path-k.result in
    let q = c.in_ok-position.field-0 in
    let m = from + q in
    let inv = c.loop-k.invariant in
    let v : Laid = record { atoms = c.len.result; position = m } in
    let next = next_scope path k s c.loop-k-test.true c.index-path-k.is in
    let fit : LowestFit s (drop from stack) (Some q) = subst (λ (ys : List Scope). LowestFit s ys (Some q)) (take_rest stack from) c.in_ok-position.ensures in
    let within : m < length stack = omega (arith, fit.0.within, length-drop from stack) in
    let e : take (k + 1) (set laid k v) ≡ take k laid ++ entry s m ∷ [] =
    take_more_set laid k v (omega arith) ∙ ap (λ (n : ℕ). take k laid ++ record { atoms = n; position = m } ∷ []) c.len.ensures.count in (
      omega arith,
      omega arith,
      length-set laid k v ∙ inv.2,
      ap (λ (ls : List Laid). listed ls (drop (k + 1) path) (drop (m + 1) stack) (m + 1)) e
          ∙ list_here (take k laid) s (drop k path) (drop (k + 1) path) stack from q next fit
          ∙ inv.3,
    )

pub returns : goal.returns
returns c =
    let path = c.args.path.now in
    let stack = c.args.stack.now in
    let k = c.loop-k.k in
    let ls = take k c.loop-k.laid in
    let all : k ≡ length path = omega arith in
    let e = sym c.loop-k.invariant.3 ∙ list_all ls path (drop c.loop-k.from stack) k c.loop-k.from (omega arith) in
    let low = lowest_listed path stack ls e in
    (some_there path (search rules), refl, (low.0, low.1, sym (ap (λ (n : ℕ). take n c.loop-k.laid) all) ∙ low.2))
