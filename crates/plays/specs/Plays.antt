-- A script as it is played: what each directive makes of the state, and what there is to print.
use Rattle.std.specs.Prelude.{◌≡◌, ℕ, ◌+◌, ◌-◌, ◌^◌, min, true, false, cond, ◌⊎◌, List, length, is_some, Some, None, Ok, Option}
use Rattle.scopes.specs.declared.scope.Scope.{Scope}
use Rattle.repository.specs.Builds.{Builds}
use Rattle.repository.specs.Held.{atoms_of}
use Rattle.repository.specs.Names.{Atoms}
use Rattle.scripts.specs.declared.directives.Action.{Action}
use Rattle.scripts.specs.declared.directives.Action.TheVariants.{Push, Pop, Clear, Restore, Noop}
use Rattle.scripts.specs.declared.directives.Directive.{Directive}
use Rattle.scripts.specs.declared.directives.Directive.TheVariants.{Nothing as SaysNothing, Theme, Stack, Line as SaysLine, Change as SaysChange}
use Rattle.scripts.specs.Operations.{operation_of}
use Rattle.scripts.specs.Reads.{Says}
use Rattle.stacks.specs.declared.ops.Change.{Change}
use Rattle.stacks.specs.declared.ops.ScopeStackOp.{ScopeStackOp}
use Rattle.plays.specs.declared.play.Event.{Event}
use Rattle.plays.specs.declared.play.Event.TheVariants.{Line, NoLine, Refused}
use Rattle.plays.specs.declared.play.Opened.{Opened}
use Rattle.plays.specs.declared.play.Play.{Play}
use Rattle.plays.specs.declared.play.Tally.{Tally}
use Rattle.plays.specs.declared.refusals.Refusal.{Refusal}
use Rattle.plays.specs.declared.refusals.Refusal.TheVariants.{LongLine}
use Rattle.plays.specs.declared.traced.Traced.{Traced}
use Rattle.plays.specs.Makes.{Made, Unmade}
use Rattle.plays.specs.Refusals.{line_refusal}

-- one more, as far as a number goes
abbrev pub more : ℕ → ℕ
more n = min (n + 1) (2 ^ 64 - 1)

-- how many lines have begun, which is the number of the open line
abbrev pub lines_of : Option Opened → ℕ
lines_of None = 0
lines_of (Some o) = o.line

-- the line behind one, of some length: its changes are passed over where it is refused
abbrev pub next_line : Option Opened → ℕ → Opened
next_line o size = record { line = more (lines_of o); length = size; last = 0; index = 0; ended = is_some (line_refusal size) }

-- a line begins; nothing else changes
pub record Opens (p : Play) (size : ℕ) (e : Option Event) (q : Play) : Type 0 where
  pub opened : q.opened ≡ Some (next_line p.opened size)
  pub told : e ≡ Some (cond (is_some (line_refusal size)) (NoLine LongLine) Line)
  pub traced : q.traced ≡ p.traced
  pub tally : q.tally ≡ p.tally

-- a change is passed over, since the changes of its line have ended
pub record Passed (o : Opened) (t : Traced) (y : Tally) (q : Play) : Type 0 where
  pub ended : o.ended ≡ true
  pub opened : q.opened ≡ Some (record { line = o.line; length = o.length; last = o.last; index = more o.index; ended = true })
  pub traced : q.traced ≡ t
  pub tally : q.tally ≡ record { changes = more y.changes; accepted = y.accepted; refused = y.refused }

-- a change is made, and its position is the last
pub record Taken (o : Opened) (t : Traced) (y : Tally) (c : Change) (q : Play) : Type 0 where
  pub ended : o.ended ≡ false
  pub made : Made o c t q.traced
  pub opened : q.opened ≡ Some (record { line = o.line; length = o.length; last = c.position; index = more o.index; ended = false })
  pub tally : q.tally ≡ record { changes = more y.changes; accepted = more y.accepted; refused = y.refused }

-- a change is refused: it is told by its index, and ends the changes of its line
pub record Stops (o : Opened) (t : Traced) (y : Tally) (c : Change) (index : ℕ) (f : Refusal) (q : Play) : Type 0 where
  pub ended : o.ended ≡ false
  pub unmade : Unmade o c t f q.traced
  pub told : index ≡ o.index
  pub opened : q.opened ≡ Some (record { line = o.line; length = o.length; last = o.last; index = more o.index; ended = true })
  pub tally : q.tally ≡ record { changes = more y.changes; accepted = y.accepted; refused = more y.refused }

-- a change of the open line o, with the stack and outline t and the counts y before it
abbrev pub Changes : Opened → Traced → Tally → Change → Option Event → Play → Type 0
Changes o t y c None q = Passed o t y q ⊎ Taken o t y c q
Changes o t y c (Some Line) q = ⊥
Changes o t y c (Some (NoLine f)) q = ⊥
Changes o t y c (Some (Refused index f)) q = Stops o t y c index f q

-- the scope that an action pushes is built from its name; any other action builds nothing
abbrev pub Named : Action → Atoms → Scope → Atoms → Type 0
Named (Push name) held x after = Builds held name.now (Ok x) after
Named (Pop n) held x after = after ≡ held
Named (Clear amount) held x after = after ≡ held
Named Restore held x after = after ≡ held
Named Noop held x after = after ≡ held

-- an action asks for an operation
pub record Asks (action : Action) (held : Atoms) (op : ScopeStackOp) (after : Atoms) : Type 0 where
  pub scope : Scope
  pub named : Named action held scope after
  pub is : op ≡ operation_of action scope

-- a starting stack is taken before the first line, and once
pub record Starts (p : Play) (e : Option Event) (q : Play) : Type 0 where
  pub first : p.opened ≡ None
  pub once : p.started ≡ false
  pub then : q.started ≡ true
  pub told : e ≡ None
  pub opened : q.opened ≡ p.opened
  pub tally : q.tally ≡ p.tally

-- a change behind the first line
pub record Changed (p : Play) (position : ℕ) (action : Action) (e : Option Event) (q : Play) : Type 0 where
  pub line : Opened
  pub behind : p.opened ≡ Some line
  pub op : ScopeStackOp
  pub asks : Asks action (atoms_of p.repository) op (atoms_of q.repository)
  pub changes : Changes line p.traced p.tally (record { position = position; operation = op }) e q

-- a line with a flaw: the stack, its outline, the open line and the counts are as they were
pub record Unplayed (p q : Play) : Type 0 where
  pub traced : q.traced ≡ p.traced
  pub started : q.started ≡ p.started
  pub opened : q.opened ≡ p.opened
  pub tally : q.tally ≡ p.tally

-- what a directive makes of the state
abbrev pub Played : Play → Directive → Option Event → Play → Type 0
Played p SaysNothing e q = (e ≡ None) × (q ≡ p)
Played p Theme e q = (e ≡ None) × (q ≡ p)
Played p (Stack names) e q = Starts p e q
Played p (SaysLine text) e q = Opens p (length text.now) e q
Played p (SaysChange position action) e q = Changed p position action e q

-- a line of a script is played
pub record Plays (p : Play) (line : List ℕ) (e : Option Event) (q : Play) : Type 0 where
  pub directive : Directive
  pub says : Says line directive
  pub played : Played p directive e q
