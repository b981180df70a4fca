-- What a line says, or where it goes wrong.
use Rattle.std.specs.Prelude.{◌≡◌, ℕ, ◌⊎◌, List, [], ◌∷◌, length, Ok, Err, Result}
use Rattle.stacks.specs.declared.ops.ClearAmount.TheVariants.{TopN, All}
use Rattle.scripts.specs.declared.directives.Directive.{Directive}
use Rattle.scripts.specs.declared.directives.Directive.TheVariants.{Nothing, Theme, Stack, Line, Change}
use Rattle.scripts.specs.declared.directives.Action.{Action}
use Rattle.scripts.specs.declared.directives.Action.TheVariants.{Push, Pop, Clear, Restore, Noop}
use Rattle.scripts.specs.declared.directives.Expected.{Expected}
use Rattle.scripts.specs.declared.directives.Expected.TheVariants.{Directive as ADirective, Number as ANumber, Operation as AnOperation, Name as AName, Count as ACount, Amount as AnAmount, End as TheEnd}
use Rattle.scripts.specs.declared.directives.Fault.{Fault}
use Rattle.scripts.specs.declared.reading.Part.{Part}
use Rattle.scripts.specs.Words.{Word, Found}
use Rattle.scripts.specs.Numbers.{Number, NoNumber}
use Rattle.scripts.specs.Keywords.{stack_word, line_word, push_word, pop_word, clear_word, restore_word, noop_word, all_word, Comment, BeginsDigit, ThemeWord, NoOpening, NoOperation}

-- the word `push` and a name
pub record Pushes (text name rest : List ℕ) : Type 0 where
  pub behind : List ℕ
  pub word : Word text push_word behind
  pub named : Word behind name rest
  pub some : name ≡ [] → ⊥

-- this word and a number
pub record Counts (verb text : List ℕ) (n : ℕ) (rest : List ℕ) : Type 0 where
  pub behind : List ℕ
  pub digits : List ℕ
  pub word : Word text verb behind
  pub counted : Word behind digits rest
  pub number : Number digits n

-- the words `clear` and `all`
pub record ClearsAll (text rest : List ℕ) : Type 0 where
  pub behind : List ℕ
  pub word : Word text clear_word behind
  pub all : Word behind all_word rest

-- a text begins with the words of an action, and the rest stands behind them
abbrev pub Acts : List ℕ → Action → List ℕ → Type 0
Acts text (Push name) rest = Pushes text name.now rest
Acts text (Pop n) rest = Counts pop_word text n rest
Acts text (Clear (TopN n)) rest = Counts clear_word text n rest
Acts text (Clear All) rest = ClearsAll text rest
Acts text Restore rest = Word text restore_word rest
Acts text Noop rest = Word text noop_word rest

-- a text is an action, and nothing stands behind it
pub record Whole (text : List ℕ) (action : Action) : Type 0 where
  pub rest : List ℕ
  pub acts : Acts text action rest
  pub end : Word rest [] []

-- no operation where one should stand
pub record NoVerb (size : ℕ) (text : List ℕ) (at : ℕ) : Type 0 where
  pub w : List ℕ
  pub rest : List ℕ
  pub found : Found size text w rest at
  pub unknown : NoOperation w

-- no name behind `push`
pub record NoName (size : ℕ) (text : List ℕ) (at : ℕ) : Type 0 where
  pub behind : List ℕ
  pub word : Word text push_word behind
  pub found : Found size behind [] [] at

-- no number behind `pop`
pub record NoCount (size : ℕ) (text : List ℕ) (at : ℕ) : Type 0 where
  pub behind : List ℕ
  pub w : List ℕ
  pub rest : List ℕ
  pub word : Word text pop_word behind
  pub found : Found size behind w rest at
  pub uncounted : NoNumber w

-- neither a number nor `all` behind `clear`
pub record NoAmount (size : ℕ) (text : List ℕ) (at : ℕ) : Type 0 where
  pub behind : List ℕ
  pub w : List ℕ
  pub rest : List ℕ
  pub word : Word text clear_word behind
  pub found : Found size behind w rest at
  pub uncounted : NoNumber w
  pub not_all : w ≡ all_word → ⊥

-- a word behind an action
pub record NoEnd (size : ℕ) (text : List ℕ) (at : ℕ) : Type 0 where
  pub action : Action
  pub behind : List ℕ
  pub w : List ℕ
  pub rest : List ℕ
  pub acts : Acts text action behind
  pub found : Found size behind w rest at
  pub some : w ≡ [] → ⊥

-- a text that ends a line of `size` bytes is no action: at `at` something else should stand
abbrev pub Misses : ℕ → List ℕ → ℕ → Expected → Type 0
Misses size text at ADirective = ⊥
Misses size text at ANumber = ⊥
Misses size text at AnOperation = NoVerb size text at
Misses size text at AName = NoName size text at
Misses size text at ACount = NoCount size text at
Misses size text at AnAmount = NoAmount size text at
Misses size text at TheEnd = NoEnd size text at

-- a line begins with a position, and what stands behind it is such
pub record Positioned (line : List ℕ) (position : ℕ) (Behind : List ℕ → Type 0) : Type 0 where
  pub w : List ℕ
  pub rest : List ℕ
  pub word : Word line w rest
  pub number : Number w position
  pub behind : Behind rest

-- a line's first word is such
pub record First (line : List ℕ) (Such : List ℕ → Type 0) : Type 0 where
  pub w : List ℕ
  pub rest : List ℕ
  pub word : Word line w rest
  pub is : Such w

-- a line's first word stands at `at` and is such
pub record FirstAt (line : List ℕ) (at : ℕ) (Such : List ℕ → Type 0) : Type 0 where
  pub w : List ℕ
  pub rest : List ℕ
  pub found : Found (length line) line w rest at
  pub is : Such w

-- the text behind the one blank that the rest begins with; both may be empty
abbrev pub BehindBlank : List ℕ → List ℕ → Type 0
BehindBlank rest text = (rest ≡ 32 ∷ text) ⊎ ((rest ≡ []) × (text ≡ []))

-- the word `line`, and the text behind its one blank
pub record Lines (line text : List ℕ) : Type 0 where
  pub rest : List ℕ
  pub word : Word line line_word rest
  pub behind : BehindBlank rest text

-- what a line that is accepted says
abbrev pub Says : List ℕ → Directive → Type 0
Says line Nothing = First line (λ w. (w ≡ []) ⊎ Comment w)
Says line Theme = First line ThemeWord
Says line (Stack names) = Word line stack_word names.now
Says line (Line text) = Lines line text.now
Says line (Change position action) = Positioned line position (λ rest. Whole rest action)

-- the change that a line begins is none
abbrev pub Breaks : List ℕ → ℕ → Expected → Type 0
Breaks line at expected = (position : ℕ) × Positioned line position (λ rest. Misses (length line) rest at expected)

-- why a line is refused, at `at`
abbrev pub Fails : List ℕ → ℕ → Expected → Type 0
Fails line at ADirective = FirstAt line at NoOpening
Fails line at ANumber = FirstAt line at (λ w. BeginsDigit w × NoNumber w)
Fails line at AnOperation = Breaks line at AnOperation
Fails line at AName = Breaks line at AName
Fails line at ACount = Breaks line at ACount
Fails line at AnAmount = Breaks line at AnAmount
Fails line at TheEnd = Breaks line at TheEnd

-- what `read` answers
abbrev pub Reads : List ℕ → Result Directive Fault → Type 0
Reads line (Ok d) = Says line d
Reads line (Err f) = Fails line f.at f.expected

-- what an action is read as
abbrev pub ReadsAction : ℕ → List ℕ → Result Action Fault → Type 0
ReadsAction size text (Ok a) = Whole text a
ReadsAction size text (Err f) = Misses size text f.at f.expected

-- what the words of an action at the beginning of such a text are read as
abbrev pub ReadsPart : ℕ → List ℕ → Result Part Fault → Type 0
ReadsPart size text (Ok p) = Acts text p.action p.rest.text.now × (p.rest.size ≡ size)
ReadsPart size text (Err f) = Misses size text f.at f.expected
