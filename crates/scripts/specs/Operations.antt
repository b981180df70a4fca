-- What an action asks of a stack.
use Rattle.std.specs.Prelude.{◌≡◌, ℕ, List, Some, None, Option}
use Rattle.std.specs.Borrow.{Bor}
use Rattle.scopes.specs.declared.scope.Scope.{Scope}
use Rattle.stacks.specs.declared.ops.ScopeStackOp.{ScopeStackOp}
use Rattle.stacks.specs.declared.ops.ScopeStackOp.TheVariants.{Push as PushOp, Pop as PopOp, Clear as ClearOp, Restore as RestoreOp, Noop as NoopOp}
use Rattle.scripts.specs.declared.directives.Action.{Action}
use Rattle.scripts.specs.declared.directives.Action.TheVariants.{Push, Pop, Clear, Restore, Noop}

-- the operation, with a scope in the place of the name
abbrev pub operation_of : Action → Scope → ScopeStackOp
operation_of (Push name) x = PushOp x
operation_of (Pop n) x = PopOp n
operation_of (Clear amount) x = ClearOp amount
operation_of Restore x = RestoreOp
operation_of Noop x = NoopOp

-- the name in an action: a push alone has one
abbrev pub Names : Action → Option (Bor (List ℕ)) → Type 0
Names (Push name) r = r ≡ Some name
Names (Pop n) r = r ≡ None
Names (Clear amount) r = r ≡ None
Names Restore r = r ≡ None
Names Noop r = r ≡ None
