use Rattle.stacks.specs.Tellings.{Chain, cuts}
use Rattle.stacks.proofs.scope_stack.ScopeStack.apply_clear.Given as goal

abbrev pub invariant-loop : goal.invariant-loop
invariant-loop g l = Chain g.H.Hook.told l.shown (cuts l.self.scopes l.counter) l.initial.hook l.hook
