use Rattle.std.proofs.Common.{◌≡◌, ◌+◌, ap, subst, arith}
use Rattle.stacks.specs.declared.ops.BasicScopeStackOp.TheVariants.{Pop as PopTold}
use Rattle.stacks.specs.declared.ops.ScopeStackOp.TheVariants.{Pop}
use Rattle.stacks.specs.Operations.{after}
use Rattle.stacks.specs.Stacks.{Stack}
use Rattle.stacks.proofs.Chains.{chain_pops}
use Rattle.stacks.proofs.Tops.{below_more}
use Rattle.stacks.proofs.scope_stack.ScopeStack.apply_pop.Goals as goal

pub loop-preserved : goal.loop-preserved
loop-preserved g c =
    let s = c.args.self.now in
    let n = c.loop.counter in
    let down = c.step_down.ensures in
    let lower : c.step_down.new.self ≡ after (Pop (n + 1)) s = grind (arith, below_more n 1 s.scopes) in
    let told = subst (λ st. g.H.Hook.told c.args.shown.now PopTold st c.loop.hook c.step_down.new.hook) (ap (λ (t : Stack). t.scopes) lower) down.told in
    (c.loop.invariant.0, lower, chain_pops g.H.Hook.told c.args.shown.now s.scopes n c.args.hook.now c.loop.hook c.step_down.new.hook c.loop.invariant.2 told)
