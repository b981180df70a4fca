use Rattle.std.proofs.Common.{◌≡◌, ◌+◌, ◌-◌, ◌≤◌, [], ◌∷◌, ◌++◌, take, drop, sym, ap, ◌∙◌, subst, arith}
use Rattle.std.proofs.lemmas.List.{take_more}
use Rattle.stacks.specs.declared.ops.BasicScopeStackOp.TheVariants.{Push}
use Rattle.stacks.specs.Tellings.{Chain, pushes}
use Rattle.stacks.proofs.Chains.{chain_pushes}
use Rattle.stacks.proofs.Tops.{take_parts, part_more}
use Rattle.stacks.proofs.scope_stack.ScopeStack.apply_restore.Goals as goal

pub loop-i-preserved : goal.loop-i-preserved
loop-i-preserved g c =
    let told = g.H.Hook.told in
    let shown = c.args.shown.now in
    let all = c.as_slice-all.result.now in
    let b = c.height-before.result in
    let i = c.loop-i.i in
    let x = c.index-all-i.result in
    let low = take b all in
    let back = take (i - b) (drop b all) in
    let above : b ≤ i = c.loop-i.auto.i in
    let after = c.push.new.self in
    let up : take (i + 1 - 0) all ≡ (low ++ back) ++ x ∷ [] =
    ap (λ n. take n all) (omega arith)
    ∙ take_more all i x c.loop-i-test.true
    ∙ (λ j. sym (take_parts b i all above) j ++ sym c.index-all-i.is j ∷ [])
    in
    let one = chain_pushes told shown low back x c.args.hook.now c.loop-i.hook after c.loop-i.invariant (subst (λ st. told shown (Push x) st c.loop-i.hook after) up c.push.ensures) in
    subst (λ ys. Chain told shown (pushes low ys) c.args.hook.now after) (ap (λ y. back ++ y ∷ []) c.index-all-i.is ∙ part_more b i all x above c.loop-i-test.true) one
