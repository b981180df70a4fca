-- Why a change of a line has no effect, or why a whole line is not taken: each by its number.
use Rattle.std.specs.Prelude.{ℕ, cond, Some, None, Option, nat_lt}
use Rattle.stacks.specs.Refusals.{op_number}
use Rattle.plays.specs.declared.refusals.Refusal.{Refusal}
use Rattle.plays.specs.declared.refusals.Refusal.TheVariants.{LongLine, Before, Beyond, Operation}

-- the number of each
abbrev pub number_of : Refusal → ℕ
number_of LongLine = 10
number_of Before = 13
number_of Beyond = 14
number_of (Operation fault) = op_number fault

-- the refusal of a position, behind the last accepted one, in a line of some length
abbrev pub position_refusal : ℕ → ℕ → ℕ → Option ℕ
position_refusal last length position = cond (nat_lt position last) (Some 13) (cond (nat_lt length position) (Some 14) None)

-- the refusal of a line, by its length
abbrev pub line_refusal : ℕ → Option ℕ
line_refusal length = cond (nat_lt 65536 length) (Some 10) None
