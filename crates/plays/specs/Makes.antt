-- What a change of a line does to a stack and its outline.
use Rattle.std.specs.Prelude.{◌≡◌, ℕ, Some, None, Ok, Err, Option, Result}
use Rattle.stacks.specs.declared.ops.Change.{Change}
use Rattle.stacks.specs.declared.outline.Place.{Place}
use Rattle.stacks.specs.Operations.{after}
use Rattle.stacks.specs.Outlines.{outlines}
use Rattle.stacks.specs.Refusals.{refusal}
use Rattle.stacks.specs.Stacks.{Stack}
use Rattle.stacks.specs.Tellings.{tellings}
use Rattle.plays.specs.declared.play.Opened.{Opened}
use Rattle.plays.specs.declared.refusals.Refusal.{Refusal}
use Rattle.plays.specs.declared.traced.Traced.{Traced}
use Rattle.plays.specs.Refusals.{number_of, position_refusal}

-- the first of two refusals
abbrev pub or_else : Option ℕ → Option ℕ → Option ℕ
or_else (Some n) second = Some n
or_else None second = second

-- the refusal of a change in the open line, if any: its position is tried before its operation
abbrev pub change_refusal : Opened → Change → Stack → Option ℕ
change_refusal o c s = or_else (position_refusal o.last o.length c.position) (refusal c.operation s)

-- where a change of the open line takes effect
abbrev pub place_of : Opened → Change → Place
place_of o c = record { line = o.line; position = c.position }

-- a change was made: the stack is that after its operation, and the outline was told with its place
pub record Made (o : Opened) (c : Change) (t u : Traced) : Type 0 where
  pub unrefused : change_refusal o c t.stack ≡ None
  pub stack : u.stack ≡ after c.operation t.stack
  pub outline : u.outline ≡ outlines (place_of o c) (tellings c.operation t.stack) t.outline

-- its first refusal, and both are as they were
pub record Unmade (o : Opened) (c : Change) (t : Traced) (f : Refusal) (u : Traced) : Type 0 where
  pub first : change_refusal o c t.stack ≡ Some (number_of f)
  pub stack : u.stack ≡ t.stack
  pub outline : u.outline ≡ t.outline

abbrev pub Makes : Opened → Change → Traced → Result Unit Refusal → Traced → Type 0
Makes o c t (Ok _) u = Made o c t u
Makes o c t (Err f) u = Unmade o c t f u
