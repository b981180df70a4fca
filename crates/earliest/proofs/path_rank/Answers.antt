use Rattle.std.proofs.Common.{◌≡◌, ℕ, ◌+◌, ◌<◌, false, List, length, drop, Some, None, sym, ap, ◌∙◌, subst, arith, rules, add-one, length-drop}
use Rattle.std.proofs.lemmas.List.{take_rest}
use Rattle.std.specs.Prelude.{Float}
use Rattle.std.specs.Float.Ieee.Positive.{num, den}
use Rattle.scopes.specs.declared.scope.Scope.{Scope}
use Rattle.rankings.specs.Layings.{atoms, LowestFit}
use Rattle.rankings.proofs.Atoms.{atoms_few}
use Rattle.earliest.specs.Scores.{plus}
use Rattle.earliest.specs.Bounds.{Under}
use Rattle.earliest.specs.Doubles.{value_number}
use Rattle.earliest.specs.Sums.{under_more, plus_under}
use Rattle.earliest.proofs.Adding.{rest, add_here, add_nowhere, add_all, add_whole_path}
use Rattle.earliest.proofs.Turns.{next_scope}
use Rattle.earliest.proofs.path_rank.Goals as goal

pub returns-in_err-position : goal.returns-in_err-position
returns-in_err-position c =
    let path = c.args.path.now in
    let stack = c.args.stack.now in
    let k = c.loop-scope.scope-index in
    let from = c.loop-scope.from in
    let s = c.scope-item.result in
    let next = next_scope path k s c.loop-scope-test.true c.scope-item.is in
    let none = subst (λ (ys : List Scope). LowestFit s ys None) (take_rest stack from) c.in_err-position.ensures in
    let some : 0 < length path = omega (arith, c.loop-scope-test.true) in
    c.from_residual.ensures
    ∙ sym (add_nowhere c.loop-scope.sum s (drop k path) (drop (k + 1) path) stack from next none)
    ∙ c.loop-scope.invariant.1
    ∙ add_whole_path path stack some

pub loop-scope-preserved : goal.loop-scope-preserved
loop-scope-preserved c =
    let path = c.args.path.now in
    let stack = c.args.stack.now in
    let k = c.loop-scope.scope-index in
    let from = c.loop-scope.from in
    let x = c.loop-scope.sum in
    let s = c.scope-item.result in
    let q = c.in_ok-position.field-0 in
    let m = from + q in
    let inv = c.loop-scope.invariant in
    let next = next_scope path k s c.loop-scope-test.true c.scope-item.is in
    let fit : LowestFit s (drop from stack) (Some q) = subst (λ (ys : List Scope). LowestFit s ys (Some q)) (take_rest stack from) c.in_ok-position.ensures in
    let within : m < length stack = omega (arith, fit.0.within, length-drop from stack) in
    let low : m < 64 = omega arith in
    let e : c.add_laid-sum.result ≡ plus x (atoms s) m = c.add_laid-sum.ensures ∙ ap (λ (n : ℕ). plus x n m) c.len.ensures.count in (
      omega arith,
      ap (λ (y : Float). rest y (drop (k + 1) path) (drop (m + 1) stack) (m + 1)) e
          ∙ add_here x s (drop k path) (drop (k + 1) path) stack from q next fit
          ∙ inv.1,
      subst (λ (y : Float). Under (m + 1) y) (sym e) (rw add-one (plus_under m (atoms s) x low (atoms_few s) (under_more from m x (omega arith) inv.2))),
    )

pub float_to_bits-result : goal.float_to_bits-result
float_to_bits-result c =
    let x = c.loop-scope.sum in
    value_number x false (num x) (den x) c.loop-scope.invariant.2.value

pub returns : goal.returns
returns c =
    let path = c.args.path.now in
    let stack = c.args.stack.now in
    let k = c.loop-scope.scope-index in
    let from = c.loop-scope.from in
    let some : 0 < length path = search rules in
    sym (add_all c.loop-scope.sum path (drop from stack) k from (omega arith))
    ∙ c.loop-scope.invariant.1
    ∙ add_whole_path path stack some
