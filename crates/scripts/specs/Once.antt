-- That a line is read in one way only.
use Rattle.std.specs.Prelude.{◌≡◌, ℕ, List, Ok, Err, Result}
use Rattle.stacks.specs.declared.ops.ClearAmount.{ClearAmount}
use Rattle.scripts.specs.declared.directives.Directive.{Directive}
use Rattle.scripts.specs.declared.directives.Directive.TheVariants.{Nothing, Theme, Stack, Line, Change}
use Rattle.scripts.specs.declared.directives.Action.{Action}
use Rattle.scripts.specs.declared.directives.Action.TheVariants.{Push, Pop, Clear, Restore, Noop}
use Rattle.scripts.specs.declared.directives.Expected.{Expected}
use Rattle.scripts.specs.declared.directives.Fault.{Fault}
use Rattle.scripts.specs.Reads.{Reads}

-- an action, apart from where its bytes lie
pub data Deed : Type 0 where
  pushes : List ℕ → Deed
  pops : ℕ → Deed
  clears : ClearAmount → Deed
  restores : Deed
  rests : Deed

abbrev pub deed : Action → Deed
deed (Push name) = pushes name.now
deed (Pop n) = pops n
deed (Clear amount) = clears amount
deed Restore = restores
deed Noop = rests

-- an answer, apart from where its bytes lie
pub data Answer : Type 0 where
  says_nothing : Answer
  says_theme : Answer
  says_stack : List ℕ → Answer
  says_line : List ℕ → Answer
  says_change : ℕ → Deed → Answer
  goes_wrong : ℕ → Expected → Answer

abbrev pub answer : Result Directive Fault → Answer
answer (Ok Nothing) = says_nothing
answer (Ok Theme) = says_theme
answer (Ok (Stack names)) = says_stack names.now
answer (Ok (Line text)) = says_line text.now
answer (Ok (Change position action)) = says_change position (deed action)
answer (Err f) = goes_wrong f.at f.expected

-- whatever else a line could be read as is the same
abbrev pub ReadOnce : List ℕ → Result Directive Fault → Type 0
ReadOnce line r = (q : Result Directive Fault) → Reads line q → answer q ≡ answer r
