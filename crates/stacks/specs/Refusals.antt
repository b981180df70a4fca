-- Each refusal by its number, and when it applies.
use Rattle.std.specs.Prelude.{ℕ, Bool, cond, List, length, Some, None, Option, ◌==◌, nat_le, nat_lt}
use Rattle.scopes.specs.declared.scope.Scope.{Scope}
use Rattle.stacks.specs.declared.faults.StackFault.{StackFault}
use Rattle.stacks.specs.declared.faults.StackFault.TheVariants.{TooManyScopes}
use Rattle.stacks.specs.declared.faults.OpFault.{OpFault}
use Rattle.stacks.specs.declared.faults.OpFault.TheVariants.{Full, TooFew, ManyAside, NoneAside}
use Rattle.stacks.specs.declared.ops.ScopeStackOp.{ScopeStackOp}
use Rattle.stacks.specs.declared.ops.ScopeStackOp.TheVariants.{Push, Pop, Clear, Restore, Noop}
use Rattle.stacks.specs.Stacks.{Stack, total}

-- the number of the refusal of a list of scopes
abbrev pub stack_number : StackFault → ℕ
stack_number TooManyScopes = 9

-- and of each refusal of an operation
abbrev pub op_number : OpFault → ℕ
op_number Full = 15
op_number TooFew = 16
op_number ManyAside = 17
op_number NoneAside = 18

-- a refusal's number where its condition holds
abbrev pub refused_if : Bool → ℕ → Option ℕ
refused_if test n = cond test (Some n) None

-- the refusal of a list of scopes, if any
abbrev pub list_refusal : List Scope → Option ℕ
list_refusal xs = refused_if (nat_lt 64 (length xs)) (stack_number TooManyScopes)

-- the refusal of an operation on a stack, if any
abbrev pub refusal : ScopeStackOp → Stack → Option ℕ
refusal (Push x) s = refused_if (nat_le 64 (total s)) (op_number Full)
refusal (Pop n) s = refused_if (nat_lt (length s.scopes) n) (op_number TooFew)
refusal (Clear a) s = refused_if (nat_le 64 (length s.asides)) (op_number ManyAside)
refusal Restore s = refused_if (length s.asides == 0) (op_number NoneAside)
refusal Noop s = None
