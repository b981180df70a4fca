-- What an operation makes of a stack.
use Rattle.std.specs.Prelude.{◌≡◌, ℕ, ◌-◌, min, cond, List, [], ◌∷◌, ◌++◌, length, take, drop, is_some, Some, None, Ok, Err, Result, slice_index_or}
use Rattle.scopes.specs.declared.scope.Scope.{Scope}
use Rattle.stacks.specs.declared.faults.OpFault.{OpFault}
use Rattle.stacks.specs.declared.ops.ClearAmount.{ClearAmount}
use Rattle.stacks.specs.declared.ops.ClearAmount.TheVariants.{TopN, All}
use Rattle.stacks.specs.declared.ops.ScopeStackOp.{ScopeStackOp}
use Rattle.stacks.specs.declared.ops.ScopeStackOp.TheVariants.{Push, Pop, Clear, Restore, Noop}
use Rattle.stacks.specs.Stacks.{Stack}
use Rattle.stacks.specs.Refusals.{op_number, refusal}

-- t is s with one scope more on top
pub record Pushed (x : Scope) (s t : Stack) : Type 0 where
  pub scopes : t.scopes ≡ s.scopes ++ x ∷ []
  pub asides : t.asides ≡ s.asides

-- t is s without its top n scopes
pub record Popped (n : ℕ) (s t : Stack) : Type 0 where
  pub gone : List Scope
  pub many : length gone ≡ n
  pub scopes : s.scopes ≡ t.scopes ++ gone
  pub asides : t.asides ≡ s.asides

-- the top n scopes of s are, in their order, the newest set-aside of t
pub record Cleared (n : ℕ) (s t : Stack) : Type 0 where
  pub top : List Scope
  pub many : length top ≡ n
  pub scopes : s.scopes ≡ t.scopes ++ top
  pub asides : t.asides ≡ s.asides ++ top ∷ []

-- the newest set-aside of s is, in its order, on top of t
pub record Restored (s t : Stack) : Type 0 where
  pub top : List Scope
  pub asides : s.asides ≡ t.asides ++ top ∷ []
  pub scopes : t.scopes ≡ s.scopes ++ top

-- how many scopes a Clear takes off a stack of some height
abbrev pub taken : ClearAmount → ℕ → ℕ
taken (TopN n) height = min n height
taken All height = height

-- an accepted operation leads from s to t
abbrev pub Done : ScopeStackOp → Stack → Stack → Type 0
Done (Push x) s t = Pushed x s t
Done (Pop n) s t = Popped n s t
Done (Clear a) s t = Cleared (taken a (length s.scopes)) s t
Done Restore s t = Restored s t
Done Noop s t = t ≡ s

-- all but the last n, and the last n
abbrev pub below : {A : Type 0} → ℕ → List A → List A
below n xs = take (length xs - n) xs

abbrev pub last : {A : Type 0} → ℕ → List A → List A
last n xs = drop (length xs - n) xs

-- the newest set-aside
abbrev pub newest : Stack → List Scope
newest s = slice_index_or s.asides (length s.asides - 1) []

-- where it leads, computed
abbrev pub after : ScopeStackOp → Stack → Stack
after (Push x) s = record { scopes = s.scopes ++ x ∷ []; asides = s.asides }
after (Pop n) s = record { scopes = below n s.scopes; asides = s.asides }
after (Clear a) s = let n = taken a (length s.scopes) in record { scopes = below n s.scopes; asides = s.asides ++ last n s.scopes ∷ [] }
after Restore s = record { scopes = s.scopes ++ newest s; asides = below 1 s.asides }
after Noop s = s

-- and a refused one leaves the stack as it is
abbrev pub next : ScopeStackOp → Stack → Stack
next op s = cond (is_some (refusal op s)) s (after op s)

-- of an operation that is not refused: it leads there, and nowhere else
pub record DoneLaw (op : ScopeStackOp) (s : Stack) : Type 0 where
  pub leads : refusal op s ≡ None → Done op s (after op s)
  pub only : (t : Stack) → Done op s t → t ≡ after op s

-- an operation on s was accepted, and led to t
pub record Accepted (op : ScopeStackOp) (s t : Stack) : Type 0 where
  pub unrefused : refusal op s ≡ None
  pub moved : t ≡ after op s

-- its refusal, and the stack is as it was
pub record Refused (op : ScopeStackOp) (s : Stack) (f : OpFault) (t : Stack) : Type 0 where
  pub first : refusal op s ≡ Some (op_number f)
  pub same : t ≡ s

abbrev pub Applied : ScopeStackOp → Stack → Result Unit OpFault → Stack → Type 0
Applied op s (Ok _) t = Accepted op s t
Applied op s (Err f) t = Refused op s f t
