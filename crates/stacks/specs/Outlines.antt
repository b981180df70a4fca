-- An outline: where each scope on a stack began.
use Rattle.std.specs.Prelude.{◌≡◌, List, [], ◌∷◌, map}
use Rattle.scopes.specs.declared.scope.Scope.{Scope}
use Rattle.stacks.specs.declared.ops.BasicScopeStackOp.{BasicScopeStackOp}
use Rattle.stacks.specs.declared.ops.BasicScopeStackOp.TheVariants.{Push, Pop}
use Rattle.stacks.specs.declared.outline.Beginning.{Beginning}
use Rattle.stacks.specs.declared.outline.Place.{Place}
use Rattle.stacks.specs.Operations.{below}
use Rattle.stacks.specs.Tellings.{Telling, grown, moved}

-- the scopes alone
abbrev pub scopes_of : List Beginning → List Scope
scopes_of bs = map (λ b. b.scope) bs

-- some scopes that begin at one place
abbrev pub begun : Place → List Scope → List Beginning
begun place xs = map (λ x. record { scope = x; place = place }) xs

-- what one telling at a place makes of an outline
abbrev pub outlined : Place → BasicScopeStackOp → List Beginning → List Beginning
outlined place (Push x) bs = grown (record { scope = x; place = place }) bs
outlined place Pop bs = below 1 bs

-- a telling led from one outline to another: so do the places, and so do the scopes
pub record Outlined (place : Place) (op : BasicScopeStackOp) (before after : List Beginning) : Type 0 where
  pub places : after ≡ outlined place op before
  pub scopes : scopes_of after ≡ moved op (scopes_of before)

-- what some tellings at a place make of one, in turn
abbrev pub outlines : Place → List Telling → List Beginning → List Beginning
outlines place [] bs = bs
outlines place (t ∷ ts) bs = outlines place ts (outlined place t.act bs)
