use Rattle.std.proofs.Common.{◌≡◌, ◌≤◌, length}
use Rattle.stacks.specs.declared.ops.ScopeStackOp.TheVariants.{Pop}
use Rattle.stacks.specs.Operations.{after}
use Rattle.stacks.specs.Tellings.{Chain, pops}
use Rattle.stacks.proofs.scope_stack.ScopeStack.apply_pop.Given as goal

abbrev pub invariant-loop : goal.invariant-loop
invariant-loop g l =
    let s = l.initial.self in
    (l.count ≤ length s.scopes)
    × (l.self ≡ after (Pop l.counter) s)
    × Chain g.H.Hook.told l.shown (pops s.scopes l.counter) l.initial.hook l.hook
