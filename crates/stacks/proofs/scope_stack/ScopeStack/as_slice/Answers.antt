use Rattle.stacks.proofs.Memory.{within}
use Rattle.stacks.proofs.scope_stack.ScopeStack.as_slice.Goals as goal

pub returns-clause-within : goal.returns-clause-within
returns-clause-within c = within _ _ c.self.view_is c.self.invariant
