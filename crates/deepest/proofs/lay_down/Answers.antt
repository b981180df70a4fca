use Rattle.std.proofs.Common.{◌≡◌, ℕ, ◌<◌, ◌≤◌, List, [], ◌∷◌, length, take, drop, None, sym, refl, ap, ◌∙◌, subst, inl, inr, arith, rules, length-set, length-take, drop_of_length-le}
use Rattle.std.proofs.lemmas.Bool.{eqb-true}
use Rattle.std.proofs.lemmas.List.{drop-set, length-take-le}
use Rattle.std.proofs.Math.Seq.{take-set-lt}
use Rattle.scopes.specs.declared.scope.Scope.{Scope}
use Rattle.rankings.specs.Layings.{atoms}
use Rattle.rankings.specs.declared.Laid.{Laid}
use Rattle.rankings.specs.Places.{laid_scopes}
use Rattle.deepest.specs.BestLaws.{found, found_worth, not_empty, empty}
use Rattle.deepest.proofs.Layings.{lays_room, search_start, search_taken, search_more, search_missing, search_whole}
use Rattle.deepest.proofs.lay_down.Goals as goal

none_laid : (path : List Scope) (xs : List Laid) → drop (length path) (take (length path) xs) ≡ laid_scopes (drop (length path) path) []
none_laid path xs =
    let short : length (take (length path) xs) ≤ length path = omega (arith, length-take (length path) xs) in
    drop_of_length-le (take (length path) xs) short ∙ sym (ap (λ (ps : List Scope). laid_scopes ps []) (drop_of_length-le path (omega arith)))

pub returns-then-is_empty : goal.returns-then-is_empty
returns-then-is_empty c =
    let path = c.args.path.now in
    let stack = c.args.stack.now in
    sym (found path stack None (λ some laid.
    elim c.then-is_empty.either [
      | inl z ↦ some (empty path (omega (arith, eqb-true (length path) 0 (sym c.is_empty.ensures ∙ z))))
      | inr z ↦ let r = lays_room stack 0 path laid.0 laid.1 (omega arith) in absurd (omega (arith, z.1))
    ]))

pub loop-scope-init : goal.loop-scope-init
loop-scope-init c =
    let path = c.args.path.now in
    (([], search_start path c.args.stack.now, none_laid path _), omega arith, refl)

pub returns-in_err-position : goal.returns-in_err-position
returns-in_err-position c =
    let path = c.args.path.now in
    let stack = c.args.stack.now in
    let inv = c.loop-scope.invariant.0 in
    rw c.from_residual.ensures
    (sym (found path stack None (λ some laid.
    search_missing path stack c.loop-scope.left.now c.loop-scope.below.now inv.0 c.in-Some.scope.now c.in-Some.rest.now
    inv.1 c.in-Some.ensures.cases c.in_err-position.ensures laid.0 laid.1)))

pub loop-scope-preserved : goal.loop-scope-preserved
loop-scope-preserved c =
    let path = c.args.path.now in
    let stack = c.args.stack.now in
    let left = c.loop-scope.left.now in
    let below = c.loop-scope.below.now in
    let s = c.in-Some.scope.now in
    let rest = c.in-Some.rest.now in
    let q = c.in_ok-position.position in
    let laid = c.loop-scope.laid in
    let inv = c.loop-scope.invariant in
    let gs = inv.0.0 in
    let cut = c.in-Some.ensures.cases in
    let n = length path in
    let k = length rest in
    let x : Laid = record { atoms = c.len.result; position = q } in
    let lt : k < n = omega (arith, cut.1, inv.1) in
    let all : n ≤ length laid = omega (arith, inv.2) in
    let short : length (take n laid) ≡ n = length-take-le n laid all in
    let put =
    ap (drop k) (take-set-lt n laid k x lt) ∙ drop-set (take n laid) k x (omega arith)
    ∙ ap (λ (m : ℕ). x ∷ drop m (take n laid)) cut.1
    ∙ ap (λ (m : ℕ). record { atoms = m; position = q } ∷ drop (length left) (take n laid)) c.len.ensures.count
    ∙ ap (λ (ys : List Laid). record { atoms = atoms s; position = q } ∷ ys) inv.0.2
    ∙ sym (ap (λ (ps : List Scope). laid_scopes ps (q ∷ gs)) (search_more path stack left below gs s rest inv.0.1 cut)) in
    ((q ∷ gs, search_taken path stack left below gs s rest q inv.0.1 cut c.in_ok-position.ensures, put), omega arith, length-set laid k x ∙ inv.2)

pub returns : goal.returns
returns c =
    let path = c.args.path.now in
    let stack = c.args.stack.now in
    let left = c.loop-scope.left.now in
    let inv = c.loop-scope.invariant.0 in
    let z : length left ≡ 0 = c.in_default.ensures.cases in
    let h = search_whole path stack left c.loop-scope.below.now inv.0 z inv.1 in
    record {
      few = omega arith;
      count = refl;
      positions = inv.0;
      lays = h.0;
      scopes = subst (λ (m : ℕ). drop m (take (length path) c.loop-scope.laid) ≡ laid_scopes (drop m path) inv.0) z inv.2;
      most = h.1;
      rank = found_worth path stack inv.0 (not_empty path (search rules)) h.0 h.1;
    }
