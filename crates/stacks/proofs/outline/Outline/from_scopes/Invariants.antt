use Rattle.std.proofs.Common.{◌≡◌, ◌≤◌, take}
use Rattle.stacks.specs.Outlines.{begun}
use Rattle.stacks.proofs.outline.Outline.from_scopes.Given as goal

abbrev pub invariant-loop-scope : goal.invariant-loop-scope
invariant-loop-scope l = (l.scope-index ≤ 64) × (l.beginnings.items ≡ begun l.place (take l.scope-index l.scopes))
