-- The words of the language, and what is told of a word by its bytes alone.
use Rattle.std.specs.Prelude.{◌≡◌, ℕ, ◌<◌, ◌⊎◌, List, [], length, codes, slice_index, Some, None, Option}
use Rattle.std.specs.Int.{IsInRange}
use Rattle.scripts.specs.declared.keywords.Opening.{Opening}
use Rattle.scripts.specs.declared.keywords.Opening.TheVariants.{Nothing, Theme, Stack, Line, Change}
use Rattle.scripts.specs.declared.keywords.Operation.{Operation}
use Rattle.scripts.specs.declared.keywords.Operation.TheVariants.{Push, Pop, Clear, Restore, Noop}

-- the words that begin a directive
abbrev pub foreground_word : List ℕ
foreground_word = codes "foreground"

abbrev pub background_word : List ℕ
background_word = codes "background"

abbrev pub rule_word : List ℕ
rule_word = codes "rule"

abbrev pub stack_word : List ℕ
stack_word = codes "stack"

abbrev pub line_word : List ℕ
line_word = codes "line"

-- the words of operations
abbrev pub push_word : List ℕ
push_word = codes "push"

abbrev pub pop_word : List ℕ
pop_word = codes "pop"

abbrev pub clear_word : List ℕ
clear_word = codes "clear"

abbrev pub restore_word : List ℕ
restore_word = codes "restore"

abbrev pub noop_word : List ℕ
noop_word = codes "noop"

-- the amount of a `clear`
abbrev pub all_word : List ℕ
all_word = codes "all"

-- w begins with such a byte
abbrev pub Begins : (ℕ → Type 0) → List ℕ → Type 0
Begins P w = (0 < length w) × P (slice_index w 0)

-- the hash begins a comment
abbrev pub Comment : List ℕ → Type 0
Comment w = Begins (λ b. b ≡ 35) w

abbrev pub BeginsDigit : List ℕ → Type 0
BeginsDigit w = Begins (IsInRange 48 57) w

abbrev pub ThemeWord : List ℕ → Type 0
ThemeWord w = (w ≡ foreground_word) ⊎ ((w ≡ background_word) ⊎ (w ≡ rule_word))

-- a first word that begins no line of the language
pub record NoOpening (w : List ℕ) : Type 0 where
  pub some : w ≡ [] → ⊥
  pub comment : Comment w → ⊥
  pub theme : ThemeWord w → ⊥
  pub stack : w ≡ stack_word → ⊥
  pub line : w ≡ line_word → ⊥
  pub digit : BeginsDigit w → ⊥

-- a word that is no operation
pub record NoOperation (w : List ℕ) : Type 0 where
  pub push : w ≡ push_word → ⊥
  pub pop : w ≡ pop_word → ⊥
  pub clear : w ≡ clear_word → ⊥
  pub restore : w ≡ restore_word → ⊥
  pub noop : w ≡ noop_word → ⊥

-- what a first word begins, if anything
abbrev pub Opens : List ℕ → Option Opening → Type 0
Opens w (Some Nothing) = (w ≡ []) ⊎ Comment w
Opens w (Some Theme) = ThemeWord w
Opens w (Some Stack) = w ≡ stack_word
Opens w (Some Line) = w ≡ line_word
Opens w (Some Change) = BeginsDigit w
Opens w None = NoOpening w

-- what a change's second word asks for, if anything
abbrev pub Asks : List ℕ → Option Operation → Type 0
Asks w (Some Push) = w ≡ push_word
Asks w (Some Pop) = w ≡ pop_word
Asks w (Some Clear) = w ≡ clear_word
Asks w (Some Restore) = w ≡ restore_word
Asks w (Some Noop) = w ≡ noop_word
Asks w None = NoOperation w
