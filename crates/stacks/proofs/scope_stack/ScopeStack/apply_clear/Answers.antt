use Rattle.std.proofs.Common.{subst}
use Rattle.stacks.specs.declared.ops.BasicScopeStackOp.TheVariants.{Pop}
use Rattle.stacks.proofs.Chains.{chain_cuts}
use Rattle.stacks.proofs.scope_stack.ScopeStack.apply_clear.Goals as goal

pub loop-preserved : goal.loop-preserved
loop-preserved g c =
    let left = c.clear.new.self.scopes in
    let told = subst (λ st. g.H.Hook.told c.args.shown.now Pop st c.loop.hook c.pop.new.self) c.as_slice.ensures.scopes c.pop.ensures in
    chain_cuts g.H.Hook.told c.args.shown.now left c.loop.counter c.args.hook.now c.loop.hook c.pop.new.self c.loop.invariant told
