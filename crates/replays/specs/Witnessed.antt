-- What a telling makes of a mirror and of a witness.
use Rattle.std.specs.Prelude.{◌≡◌, ◌+◌, ◌-◌, ◌^◌, min, List}
use Rattle.scopes.specs.declared.scope.Scope.{Scope}
use Rattle.stacks.specs.declared.ops.BasicScopeStackOp.{BasicScopeStackOp}
use Rattle.stacks.specs.Tellings.{moved}
use Rattle.replays.specs.declared.mirror.Mirror.{Mirror}
use Rattle.replays.specs.declared.witness.Witness.{Witness}

-- the scopes that a mirror was told, lowest first
abbrev pub mirrored : Mirror → List Scope
mirrored m = m.scopes.items

-- one telling more: a witness's scopes move, and it is counted
pub record Told (op : BasicScopeStackOp) (w v : Witness) : Type 0 where
  pub scopes : mirrored v.mirror ≡ moved op (mirrored w.mirror)
  pub counted : v.told ≡ min (w.told + 1) (2 ^ 64 - 1)
