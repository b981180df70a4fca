-- What a hook is told, and what becomes of it.
use Rattle.std.specs.Prelude.{◌≡◌, ℕ, zero, suc, cond, List, [], ◌∷◌, ◌++◌, map, length, replicate, None, Ok, Err, Result, nat_lt}
use Rattle.std.specs.List.{AllByRecursion}
use Rattle.scopes.specs.declared.scope.Scope.{Scope}
use Rattle.stacks.specs.declared.faults.OpFault.{OpFault}
use Rattle.stacks.specs.declared.ops.BasicScopeStackOp.{BasicScopeStackOp}
use Rattle.stacks.specs.declared.ops.BasicScopeStackOp.TheVariants.{Push, Pop}
use Rattle.stacks.specs.declared.ops.ScopeStackOp.{ScopeStackOp}
use Rattle.stacks.specs.declared.ops.ScopeStackOp.TheVariants.{Push as PushOp, Pop as PopOp, Clear, Restore, Noop}
use Rattle.stacks.specs.Stacks.{Stack}
use Rattle.stacks.specs.Operations.{taken, below, newest, after}
use Rattle.stacks.specs.Refusals.{refusal}

-- one more on top; at 64 it is ignored
abbrev pub grown : {A : Type 0} → A → List A → List A
grown x xs = cond (nat_lt (length xs) 64) (xs ++ x ∷ []) xs

-- what one telling makes of a list of scopes; a pop at none leaves it empty
abbrev pub moved : BasicScopeStackOp → List Scope → List Scope
moved (Push x) xs = grown x xs
moved Pop xs = below 1 xs

-- a single push or pop, with the stack then standing
pub record Telling : Type 0 where
  pub act : BasicScopeStackOp
  pub stack : List Scope

-- some scopes pushed on xs, one after another
abbrev pub pushes : List Scope → List Scope → List Telling
pushes xs [] = []
pushes xs (y ∷ ys) = record { act = Push y; stack = xs ++ y ∷ [] } ∷ pushes (xs ++ y ∷ []) ys

-- n scopes popped off xs, one after another
abbrev pub pops : List Scope → ℕ → List Telling
pops xs zero = []
pops xs (suc n) = record { act = Pop; stack = below 1 xs } ∷ pops (below 1 xs) n

-- n scopes cut off at once, which leaves xs: each pop is told with that
abbrev pub cuts : List Scope → ℕ → List Telling
cuts xs n = replicate n (record { act = Pop; stack = xs })

-- what an accepted operation on a stack tells
abbrev pub tellings : ScopeStackOp → Stack → List Telling
tellings (PushOp x) s = pushes s.scopes (x ∷ [])
tellings (PopOp n) s = pops s.scopes n
tellings (Clear a) s = let n = taken a (length s.scopes) in cuts (below n s.scopes) n
tellings Restore s = pushes s.scopes (newest s)
tellings Noop s = []

-- a refused one tells nothing
abbrev pub told_of : ScopeStackOp → Stack → Result Unit OpFault → List Telling
told_of op s (Ok _) = tellings op s
told_of op s (Err _) = []

-- a value goes through one telling after another, each of them as `told` relates the values before and after it
abbrev pub Chain : {S H : Type 0} → (S → BasicScopeStackOp → List Scope → H → H → Type 0) → S → List Telling → H → H → Type 0
Chain told shown [] s t = s ≡ t
Chain {H = H} told shown (x ∷ xs) s t = (m : H) × told shown x.act x.stack s m × Chain told shown xs m t

-- the single pushes and pops of an operation on a stack
abbrev pub acts : ScopeStackOp → Stack → List BasicScopeStackOp
acts (PushOp x) s = Push x ∷ []
acts (PopOp n) s = replicate n Pop
acts (Clear a) s = replicate (taken a (length s.scopes)) Pop
acts Restore s = map Push (newest s)
acts Noop s = []

-- each telling's stack is the one before it, moved by it
abbrev pub Steps : List Scope → List Telling → Type 0
Steps xs [] = Unit {0}
Steps xs (t ∷ ts) = (t.stack ≡ moved t.act xs) × Steps t.stack ts

-- with the stack then standing: a Clear cuts all off before it tells, any other operation goes step by step
abbrev pub Standing : ScopeStackOp → Stack → List Telling → Type 0
Standing (PushOp x) s ts = Steps s.scopes ts
Standing (PopOp n) s ts = Steps s.scopes ts
Standing (Clear a) s ts = AllByRecursion (λ t. t.stack ≡ (after (Clear a) s).scopes) ts
Standing Restore s ts = Steps s.scopes ts
Standing Noop s ts = Steps s.scopes ts

-- some tellings are those of an operation on a stack
pub record Tells (op : ScopeStackOp) (s : Stack) (ts : List Telling) : Type 0 where
  pub told : map (λ t. t.act) ts ≡ acts op s
  pub standing : Standing op s ts

-- of an operation that is not refused: `tellings` are such, and no others are
pub record TellLaw (op : ScopeStackOp) (s : Stack) : Type 0 where
  pub are : refusal op s ≡ None → Tells op s (tellings op s)
  pub only : refusal op s ≡ None → (ts : List Telling) → Tells op s ts → ts ≡ tellings op s
