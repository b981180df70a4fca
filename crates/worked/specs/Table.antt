-- The worked lines, one table.
use Rattle.std.specs.Prelude.{◌≡◌, ℕ, true, List, [], ◌∷◌, ◌++◌, replicate, pos, Some, None, Option, nat_lt, to_bits}
use Rattle.std.specs.Float.{binary64}
use Rattle.std.specs.Float.Ieee.{of_int}
use Rattle.stacks.specs.declared.ops.ClearAmount.TheVariants.{All}
use Rattle.stacks.specs.declared.ops.ScopeStackOp.{ScopeStackOp}
use Rattle.stacks.specs.declared.ops.ScopeStackOp.TheVariants.{Clear, Restore}
use Rattle.stacks.specs.Operations.{next}
use Rattle.stacks.specs.Refusals.{refusal}
use Rattle.stacks.specs.Stacks.{Stack, started}
use Rattle.scopes.specs.declared.scope.Scope.{Scope}
use Rattle.earliest.specs.Ranks.{path_rank}
use Rattle.earliest.specs.Scores.{lone_rank}
use Rattle.deepest.specs.Best.{path_digits}
use Rattle.deepest.specs.Worths.{value, digits, lone_digits}
use Rattle.worked.specs.Named.{a, c, m, string, formula, sheet, template, a·b, c·d, e·f, e·f·g, w·x·y·z}

-- the refusal, if any, of each of some operations in turn
abbrev pub refusals : Stack → List ScopeStackOp → List (Option ℕ)
refusals s [] = []
refusals s (op ∷ ops) = refusal op s ∷ refusals (next op s) ops

-- the rank under `earliest` of a score that is this whole number
abbrev pub scored : ℕ → Option ℕ
scored n = Some (to_bits binary64 (of_int binary64 (pos n)))

-- a stack of 18 scopes
abbrev pub tall : List Scope
tall = a ∷ replicate 16 m ++ (w·x·y·z ∷ [])

pub record Table : Type 0 where
  -- Clear All on an empty stack, Restore, Restore: accepted, accepted, refused with 18
  pub empty_clear : refusals (started []) (Clear All ∷ Restore ∷ Restore ∷ []) ≡ None ∷ None ∷ Some 18 ∷ []
  -- `a.b c e.f` on `a.b c.d e.f.g`: 138 under earliest; under deepest the digits from position 0 are 2, 1, 2
  pub three_earliest : path_rank (a·b ∷ c ∷ e·f ∷ []) (a·b ∷ c·d ∷ e·f·g ∷ []) ≡ scored 138
  pub three_deepest : path_digits (a·b ∷ c ∷ e·f ∷ []) (a·b ∷ c·d ∷ e·f·g ∷ []) ≡ Some (digits 0x212)
  -- `string` and `formula string` on `sheet formula string`: 64 and 72
  pub plain_string : path_rank (string ∷ []) (sheet ∷ formula ∷ string ∷ []) ≡ scored 64
  pub plain_formula : path_rank (formula ∷ string ∷ []) (sheet ∷ formula ∷ string ∷ []) ≡ scored 72
  -- on `sheet formula string template formula string`: the lone `string` at its highest position, 5, has 32,768 and
  -- `formula string` 72; under deepest the second ranks higher
  pub nested_string : Some (lone_rank 1 5) ≡ scored 32768
  pub nested_formula : path_rank (formula ∷ string ∷ []) (sheet ∷ formula ∷ string ∷ template ∷ formula ∷ string ∷ []) ≡ scored 72
  pub nested_deepest : path_digits (formula ∷ string ∷ []) (sheet ∷ formula ∷ string ∷ template ∷ formula ∷ string ∷ []) ≡ Some (digits 0x110000)
  pub nested_higher : nat_lt (value (lone_digits 1 5)) (value (digits 0x110000)) ≡ true
  -- eight atoms at 0 and one at 1: 8 and 8; under deepest the second ranks higher
  pub eight_atoms : Some (lone_rank 8 0) ≡ scored 8
  pub one_atom : Some (lone_rank 1 1) ≡ scored 8
  pub one_higher : nat_lt (value (lone_digits 8 0)) (value (lone_digits 1 1)) ≡ true
  -- `w.x.y.z` and `a w.x.y.z` on `a`, sixteen `m`, `w.x.y.z`: both 9,007,199,254,740,992, since the second sum is rounded;
  -- under deepest the second ranks higher
  pub rounded_one : path_rank (w·x·y·z ∷ []) tall ≡ scored 9007199254740992
  pub rounded_two : path_rank (a ∷ w·x·y·z ∷ []) tall ≡ scored 9007199254740992
  pub unrounded_one : path_digits (w·x·y·z ∷ []) tall ≡ Some (digits 0x400000000000000000)
  pub unrounded_two : path_digits (a ∷ w·x·y·z ∷ []) tall ≡ Some (digits 0x400000000000000001)
