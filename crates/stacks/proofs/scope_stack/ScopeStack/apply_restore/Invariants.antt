use Rattle.std.proofs.Common.{◌-◌, take, drop}
use Rattle.stacks.specs.Tellings.{Chain, pushes}
use Rattle.stacks.proofs.scope_stack.ScopeStack.apply_restore.Given as goal

abbrev pub invariant-loop-i : goal.invariant-loop-i
invariant-loop-i g l = Chain g.H.Hook.told l.shown (pushes (take l.before l.all) (take (l.i - l.before) (drop l.before l.all))) l.initial.hook l.hook
