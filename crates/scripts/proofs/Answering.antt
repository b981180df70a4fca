-- The one answer to a line: a function of the line that every reading of it agrees with.
use Rattle.std.proofs.Common.{◌≡◌, ℕ, ◌+◌, ◌-◌, ◌^◌, Bool, true, false, cond, ◌&&◌, ◌||◌, eqb, ltb, leb, ◌⊎◌, List, [], ◌∷◌, length, drop, Ok, Err, Result, sym, refl, ap, ◌∙◌, subst, inl, inr, ⊎_elim, arith}
use Rattle.std.specs.Str.Parse.{digits_value}
use Rattle.std.specs.Int.{IsInRange}
use Rattle.std.specs.List.{AllByRecursion}
use Rattle.std.specs.Str.{bytes_eq}
use Rattle.std.proofs.lemmas.Slice.Eq.{bytes_eq-Decides}
use Rattle.std.proofs.lemmas.Bool.{cases_Bool, and_from, and_parts, or_from, cond-true, cond-false, ltb-true, eq-eqb, ne_eqb}
use Rattle.std.proofs.lemmas.Bool.Decides.{nat_tests}
use Rattle.stacks.specs.declared.ops.ClearAmount.TheVariants.{TopN, All as WholeStack}
use Rattle.scripts.specs.declared.directives.Directive.{Directive}
use Rattle.scripts.specs.declared.directives.Directive.TheVariants.{Nothing, Theme, Stack, Line, Change}
use Rattle.scripts.specs.declared.directives.Action.{Action}
use Rattle.scripts.specs.declared.directives.Action.TheVariants.{Push, Pop, Clear, Restore, Noop}
use Rattle.scripts.specs.declared.directives.Expected.{Expected}
use Rattle.scripts.specs.declared.directives.Expected.TheVariants.{Directive as ADirective, Number as ANumber, Operation as AnOperation, Name as AName, Count as ACount, Amount as AnAmount, End as TheEnd}
use Rattle.scripts.specs.declared.directives.Fault.{Fault}
use Rattle.scripts.specs.Words.{Word, Found}
use Rattle.scripts.specs.Numbers.{Number, NoNumber}
use Rattle.scripts.specs.Keywords.{foreground_word, background_word, rule_word, stack_word, line_word, push_word, pop_word, clear_word, restore_word, noop_word, all_word, Begins, BeginsDigit, ThemeWord, NoOpening, NoOperation}
use Rattle.scripts.specs.Reads.{Acts, Whole, Misses, Says, Fails, Breaks, Reads, BehindBlank}
use Rattle.scripts.specs.Once.{Deed, pushes, pops, clears, restores, rests, deed, Answer, says_nothing, says_theme, says_stack, says_line, says_change, goes_wrong, answer, ReadOnce}
use Rattle.scripts.proofs.Cutting.{first_of, rest_of, first_is, rest_is}

-- numbers, as tests
abbrev digit : ℕ → Bool
digit b = leb 48 b && leb b 57

abbrev digits : List ℕ → Bool
digits [] = true
digits (b ∷ bs) = digit b && digits bs

abbrev is_number : List ℕ → Bool
is_number w = ltb 0 (length w) && (digits w && ltb (digits_value 10 w) (2 ^ 64))

-- a test whose fact is refuted fails
fails : {P : Type 0} (test : Bool) → (test ≡ true → P) → (P → ⊥) → test ≡ false
fails test holds none = ⊎_elim (λ e. absurd (none (holds e))) (λ e. e) (cases_Bool test)

digit_true : (b : ℕ) → IsInRange 48 57 b → digit b ≡ true
digit_true b h = grind (arith, nat_tests)

digit_in : (b : ℕ) → digit b ≡ true → IsInRange 48 57 b
digit_in b e = grind (arith, nat_tests)

digits_true : (w : List ℕ) → AllByRecursion (IsInRange 48 57) w → digits w ≡ true
digits_true [] h = refl
digits_true (b ∷ bs) h = and_from (digit b) (digits bs) (digit_true b h.0) (digits_true bs h.1)

digits_in : (w : List ℕ) → digits w ≡ true → AllByRecursion (IsInRange 48 57) w
digits_in [] e = tt
digits_in (b ∷ bs) e = let p = and_parts (digit b) (digits bs) e in (digit_in b p.0, digits_in bs p.1)

number_true : (w : List ℕ) (n : ℕ) → Number w n → is_number w ≡ true
number_true w n h = grind (arith, nat_tests, digits_true w h.digits, h.some, h.is, h.small)

number_in : (w : List ℕ) → is_number w ≡ true → Number w (digits_value 10 w)
number_in w e =
    let p = and_parts (ltb 0 (length w)) (digits w && ltb (digits_value 10 w) (2 ^ 64)) e in
    let q = and_parts (digits w) (ltb (digits_value 10 w) (2 ^ 64)) p.1 in
    record { some = ltb-true 0 (length w) p.0; digits = digits_in w q.0; is = refl; small = ltb-true (digits_value 10 w) (2 ^ 64) q.1 }

number_false : (w : List ℕ) → NoNumber w → is_number w ≡ false
number_false w h = fails (is_number w) (number_in w) (h (digits_value 10 w))

same_false : (w v : List ℕ) → (w ≡ v → ⊥) → bytes_eq w v ≡ false
same_false w v h = fails (bytes_eq w v) (bytes_eq-Decides w v).0 h

-- where a word stands
abbrev place : ℕ → List ℕ → List ℕ → ℕ
place size w rest = size - (length w + length rest)

place_is : (size : ℕ) (text w rest : List ℕ) (at : ℕ) → Found size text w rest at → place size w rest ≡ at
place_is size text w rest at h = omega (arith, h.place)

-- a word and the rest put in for those of a text
at_word : {X : Type 0} (f : List ℕ → List ℕ → X) (text w rest : List ℕ) → Word text w rest → f (first_of text) (rest_of text) ≡ f w rest
at_word f text w rest h = ap (λ v. f v (rest_of text)) (first_is text w rest h) ∙ ap (f w) (rest_is text w rest h)

module _ (position size : ℕ) where
  -- behind an action
  abbrev by_end : Deed → List ℕ → List ℕ → Answer
  by_end d [] rest = says_change position d
  by_end d (b ∷ bs) rest = goes_wrong (place size (b ∷ bs) rest) TheEnd

  abbrev ending : Deed → List ℕ → Answer
  ending d text = by_end d (first_of text) (rest_of text)

  -- behind `push`, `pop` and `clear`
  abbrev by_name : List ℕ → List ℕ → Answer
  by_name [] rest = goes_wrong (place size [] rest) AName
  by_name (b ∷ bs) rest = ending (pushes (b ∷ bs)) rest

  abbrev by_count : List ℕ → List ℕ → Answer
  by_count w rest = cond (is_number w) (ending (pops (digits_value 10 w)) rest) (goes_wrong (place size w rest) ACount)

  abbrev by_amount : List ℕ → List ℕ → Answer
  by_amount w rest =
      cond (bytes_eq w all_word) (ending (clears WholeStack) rest)
      (cond (is_number w) (ending (clears (TopN (digits_value 10 w))) rest) (goes_wrong (place size w rest) AnAmount))

  abbrev by_verb : List ℕ → List ℕ → Answer
  by_verb w rest =
      cond (bytes_eq w push_word) (by_name (first_of rest) (rest_of rest))
      (cond (bytes_eq w pop_word) (by_count (first_of rest) (rest_of rest))
      (cond (bytes_eq w clear_word) (by_amount (first_of rest) (rest_of rest))
      (cond (bytes_eq w restore_word) (ending restores rest)
      (cond (bytes_eq w noop_word) (ending rests rest) (goes_wrong (place size w rest) AnOperation)))))

  abbrev acting : List ℕ → Answer
  acting text = by_verb (first_of text) (rest_of text)

  name_some : (w rest : List ℕ) → (w ≡ [] → ⊥) → by_name w rest ≡ ending (pushes w) rest
  name_some [] rest h = absurd (h refl)
  name_some (b ∷ bs) rest h = refl

  end_some : (d : Deed) (w rest : List ℕ) → (w ≡ [] → ⊥) → by_end d w rest ≡ goes_wrong (place size w rest) TheEnd
  end_some d [] rest h = absurd (h refl)
  end_some d (b ∷ bs) rest h = refl

  count_is : (w rest : List ℕ) (n : ℕ) → Number w n → by_count w rest ≡ ending (pops n) rest
  count_is w rest n h = cond-true _ _ _ (number_true w n h) ∙ ap (λ m. ending (pops m) rest) (sym h.is)

  not_all : (w : List ℕ) (n : ℕ) → Number w n → w ≡ all_word → ⊥
  not_all w n h e = let d = subst (AllByRecursion (IsInRange 48 57)) e h.digits in omega (arith, d.0.1)

  amount_is : (w rest : List ℕ) (n : ℕ) → Number w n → by_amount w rest ≡ ending (clears (TopN n)) rest
  amount_is w rest n h =
      cond-false _ _ _ (same_false w all_word (not_all w n h)) ∙ cond-true _ _ _ (number_true w n h) ∙ ap (λ m. ending (clears (TopN m)) rest) (sym h.is)

  -- the words of an action
  acts_is : (text : List ℕ) (a : Action) (rest : List ℕ) → Acts text a rest → acting text ≡ ending (deed a) rest
  acts_is text (Push name) rest h =
      at_word by_verb text push_word h.behind h.word ∙ at_word by_name h.behind name.now rest h.named ∙ name_some name.now rest h.some
  acts_is text (Pop n) rest h =
      at_word by_verb text pop_word h.behind h.word ∙ at_word by_count h.behind h.digits rest h.counted ∙ count_is h.digits rest n h.number
  acts_is text (Clear (TopN n)) rest h =
      at_word by_verb text clear_word h.behind h.word ∙ at_word by_amount h.behind h.digits rest h.counted ∙ amount_is h.digits rest n h.number
  acts_is text (Clear WholeStack) rest h =
      at_word by_verb text clear_word h.behind h.word ∙ at_word by_amount h.behind all_word rest h.all
  acts_is text Restore rest h = at_word by_verb text restore_word rest h
  acts_is text Noop rest h = at_word by_verb text noop_word rest h

  whole_is : (text : List ℕ) (a : Action) → Whole text a → acting text ≡ says_change position (deed a)
  whole_is text a h = acts_is text a h.rest h.acts ∙ at_word (by_end (deed a)) h.rest [] [] h.end

  wrong : (e : Expected) (text w rest : List ℕ) (at : ℕ) → Found size text w rest at → goes_wrong (place size w rest) e ≡ goes_wrong at e
  wrong e text w rest at h = ap (λ n. goes_wrong n e) (place_is size text w rest at h)

  verb_unknown : (w rest : List ℕ) → NoOperation w → by_verb w rest ≡ goes_wrong (place size w rest) AnOperation
  verb_unknown w rest h =
      cond-false _ _ _ (same_false w push_word h.push) ∙ cond-false _ _ _ (same_false w pop_word h.pop) ∙ cond-false _ _ _ (same_false w clear_word h.clear) ∙ cond-false _ _ _ (same_false w restore_word h.restore) ∙ cond-false _ _ _ (same_false w noop_word h.noop)

  misses_is : (text : List ℕ) (at : ℕ) (e : Expected) → Misses size text at e → acting text ≡ goes_wrong at e
  misses_is text at ADirective h = absurd h
  misses_is text at ANumber h = absurd h
  misses_is text at AnOperation h =
      at_word by_verb text h.w h.rest h.found.word ∙ verb_unknown h.w h.rest h.unknown ∙ wrong AnOperation text h.w h.rest at h.found
  misses_is text at AName h =
      at_word by_verb text push_word h.behind h.word ∙ at_word by_name h.behind [] [] h.found.word ∙ wrong AName h.behind [] [] at h.found
  misses_is text at ACount h =
      at_word by_verb text pop_word h.behind h.word ∙ at_word by_count h.behind h.w h.rest h.found.word ∙ cond-false _ _ _ (number_false h.w h.uncounted) ∙ wrong ACount h.behind h.w h.rest at h.found
  misses_is text at AnAmount h =
      at_word by_verb text clear_word h.behind h.word ∙ at_word by_amount h.behind h.w h.rest h.found.word ∙ cond-false _ _ _ (same_false h.w all_word h.not_all) ∙ cond-false _ _ _ (number_false h.w h.uncounted) ∙ wrong AnAmount h.behind h.w h.rest at h.found
  misses_is text at TheEnd h =
      acts_is text h.action h.behind h.acts ∙ at_word (by_end (deed h.action)) h.behind h.w h.rest h.found.word ∙ end_some (deed h.action) h.w h.rest h.some ∙ wrong TheEnd h.behind h.w h.rest at h.found

-- the first word
module _ (size : ℕ) where
  abbrev by_change : List ℕ → List ℕ → Answer
  by_change w rest = cond (is_number w) (acting (digits_value 10 w) size rest) (goes_wrong (place size w rest) ANumber)

  abbrev by_keyword : List ℕ → List ℕ → Answer
  by_keyword w rest =
      cond (bytes_eq w foreground_word || (bytes_eq w background_word || bytes_eq w rule_word)) says_theme
      (cond (bytes_eq w stack_word) (says_stack rest)
      (cond (bytes_eq w line_word) (says_line (drop 1 rest)) (goes_wrong (place size w rest) ADirective)))

  abbrev by_first : List ℕ → List ℕ → Answer
  by_first [] rest = says_nothing
  by_first (b ∷ bs) rest = cond (eqb b 35) says_nothing (cond (digit b) (by_change (b ∷ bs) rest) (by_keyword (b ∷ bs) rest))

  -- a comment, a digit, and neither
  comment_is : (w rest : List ℕ) → Begins (λ b. b ≡ 35) w → by_first w rest ≡ says_nothing
  comment_is [] rest h = refl
  comment_is (b ∷ bs) rest h = cond-true _ _ _ (eq-eqb b 35 h.1)

  digit_is : (w rest : List ℕ) → BeginsDigit w → by_first w rest ≡ by_change w rest
  digit_is [] rest h = absurd (omega (arith, h.0))
  digit_is (b ∷ bs) rest h = cond-false _ _ _ (ne_eqb b 35 (λ e. omega (arith, h.1.0))) ∙ cond-true _ _ _ (digit_true b h.1)

  begins : (w : List ℕ) (n : ℕ) → Number w n → BeginsDigit w
  begins [] n h = absurd (omega (arith, h.some))
  begins (b ∷ bs) n h = (h.some, h.digits.0)

  number_is : (w rest : List ℕ) (n : ℕ) → Number w n → by_first w rest ≡ acting n size rest
  number_is w rest n h =
      digit_is w rest (begins w n h) ∙ cond-true _ _ _ (number_true w n h) ∙ ap (λ m. acting m size rest) (sym h.is)

  no_digit : (b : ℕ) → (IsInRange 48 57 b → ⊥) → digit b ≡ false
  no_digit b h = fails (digit b) (digit_in b) h

  unknown_is : (w rest : List ℕ) → NoOpening w → by_first w rest ≡ goes_wrong (place size w rest) ADirective
  unknown_is [] rest h = absurd (h.some refl)
  unknown_is (b ∷ bs) rest h =
      let w = b ∷ bs in
      let theme = or_from _ _ (same_false w foreground_word (λ e. h.theme (inl e))) (or_from _ _ (same_false w background_word (λ e. h.theme (inr (inl e)))) (same_false w rule_word (λ e. h.theme (inr (inr e))))) in
      cond-false _ _ _ (ne_eqb b 35 (λ e. h.comment (omega arith, e))) ∙ cond-false _ _ _ (no_digit b (λ d. h.digit (omega arith, d))) ∙ cond-false _ _ _ theme ∙ cond-false _ _ _ (same_false w stack_word h.stack) ∙ cond-false _ _ _ (same_false w line_word h.line)

-- the answer to a line, and that each reading gives it
abbrev the_answer : List ℕ → Answer
the_answer line = by_first (length line) (first_of line) (rest_of line)

module _ (line w rest : List ℕ) (h : Word line w rest) where
  here : the_answer line ≡ by_first (length line) w rest
  here = at_word (by_first (length line)) line w rest h

  theme_is : ThemeWord w → the_answer line ≡ says_theme
  theme_is (inl e) = here ∙ ap (λ v. by_first (length line) v rest) e
  theme_is (inr (inl e)) = here ∙ ap (λ v. by_first (length line) v rest) e
  theme_is (inr (inr e)) = here ∙ ap (λ v. by_first (length line) v rest) e

  nothing_is : (w ≡ []) ⊎ Begins (λ b. b ≡ 35) w → the_answer line ≡ says_nothing
  nothing_is (inl e) = here ∙ ap (λ v. by_first (length line) v rest) e
  nothing_is (inr b) = here ∙ comment_is (length line) w rest b

line_is : (rest text : List ℕ) → BehindBlank rest text → drop 1 rest ≡ text
line_is rest text (inl e) = ap (drop 1) e
line_is rest text (inr p) = ap (drop 1) p.0 ∙ sym p.1

says_is : (line : List ℕ) (d : Directive) → Says line d → the_answer line ≡ answer (Ok d)
says_is line Nothing h = nothing_is line h.w h.rest h.word h.is
says_is line Theme h = theme_is line h.w h.rest h.word h.is
says_is line (Stack names) h = here line stack_word names.now h
says_is line (Line text) h = here line line_word h.rest h.word ∙ ap says_line (line_is h.rest text.now h.behind)
says_is line (Change position action) h =
    here line h.w h.rest h.word ∙ number_is (length line) h.w h.rest position h.number ∙ whole_is position (length line) h.rest action h.behind

breaks_is : (line : List ℕ) (at : ℕ) (e : Expected) → Breaks line at e → the_answer line ≡ goes_wrong at e
breaks_is line at e (position, h) =
    here line h.w h.rest h.word ∙ number_is (length line) h.w h.rest position h.number ∙ misses_is position (length line) h.rest at e h.behind

fails_is : (line : List ℕ) (at : ℕ) (e : Expected) → Fails line at e → the_answer line ≡ goes_wrong at e
fails_is line at ADirective h =
    here line h.w h.rest h.found.word ∙ unknown_is (length line) h.w h.rest h.is ∙ ap (λ n. goes_wrong n ADirective) (place_is (length line) line h.w h.rest at h.found)
fails_is line at ANumber h =
    here line h.w h.rest h.found.word ∙ digit_is (length line) h.w h.rest h.is.0 ∙ cond-false _ _ _ (number_false h.w h.is.1) ∙ ap (λ n. goes_wrong n ANumber) (place_is (length line) line h.w h.rest at h.found)
fails_is line at AnOperation h = breaks_is line at AnOperation h
fails_is line at AName h = breaks_is line at AName h
fails_is line at ACount h = breaks_is line at ACount h
fails_is line at AnAmount h = breaks_is line at AnAmount h
fails_is line at TheEnd h = breaks_is line at TheEnd h

reads_is : (line : List ℕ) (r : Result Directive Fault) → Reads line r → the_answer line ≡ answer r
reads_is line (Ok d) h = says_is line d h
reads_is line (Err f) h = fails_is line f.at f.expected h

pub read_once : (line : List ℕ) (r : Result Directive Fault) → Reads line r → ReadOnce line r
read_once line r h q g = sym (reads_is line q g) ∙ reads_is line r h
