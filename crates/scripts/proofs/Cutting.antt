-- A text cut into blanks, a word and the rest, and that it is cut in one way only.
use Rattle.std.proofs.Common.{◌≡◌, ℕ, ◌+◌, ◌-◌, ◌<◌, ◌≤◌, true, cond, eqb, List, [], ◌∷◌, ◌++◌, length, get_or, take, drop, sym, refl, ap, ◌∙◌, subst, inl, inr, ⊎_elim, arith}
use Rattle.std.specs.List.{AllByRecursion}
use Rattle.std.proofs.lemmas.List.{take-append-drop, drop-drop, drop_more, take_rest, drop_all, length-take, length-drop, length-append, get_or-take, get_or-drop, nil_from_length}
use Rattle.std.proofs.ByRecursion.{All-from_get_or}
use Rattle.std.proofs.lemmas.Bool.{cases_lt, eqb-true, ne_eqb, cond-false}
use Rattle.scripts.specs.Words.{Ended, Word, WordOnce, Found}

-- the word from `start` to `end`, as the code cuts it
module _ (text : List ℕ) (start end : ℕ) (rising : start ≤ end) (within : end ≤ length text)
    (before : (k : ℕ) → k < start → get_or text k 0 ≡ 32)
    (first : start < length text → get_or text start 0 ≡ 32 → ⊥)
    (plain : (k : ℕ) → start ≤ k → k < end → get_or text k 0 ≡ 32 → ⊥)
    (last : end < length text → get_or text end 0 ≡ 32)
  where
    whole_is : text ≡ take start text ++ (take (end - start) (drop start text) ++ drop end text)
    whole_is =
        let there : start + (end - start) ≡ end = omega arith in
        let back = sym (take-append-drop (end - start) (drop start text)) ∙ ap (λ l. take (end - start) (drop start text) ++ l) (drop-drop (end - start) start text ∙ ap (λ n. drop n text) there) in
        sym (take-append-drop start text) ∙ ap (λ l. take start text ++ l) back

    plain_is : AllByRecursion (λ b. b ≡ 32 → ⊥) (take (end - start) (drop start text))
    plain_is =
        All-from_get_or (λ b. b ≡ 32 → ⊥) (take (end - start) (drop start text)) 0
        (λ i lt e. plain (start + i) (omega arith) (omega (arith, length-take (end - start) (drop start text))) (sym (get_or-drop start text i 0) ∙ sym (get_or-take (end - start) (drop start text) i 0 (omega (arith, length-take (end - start) (drop start text)))) ∙ e))

    ended_is : Ended (drop end text)
    ended_is =
        ⊎_elim (λ lt. inr (drop (end + 1) text, drop_more text end 0 lt ∙ ap (λ b. b ∷ drop (end + 1) text) (last lt))) (λ le. inl (drop_all end text le)) (cases_lt end (length text))

    none_is : take (end - start) (drop start text) ≡ [] → drop end text ≡ []
    none_is e =
        let n = ap length e in
        let t = length-take (end - start) (drop start text) in
        let d = length-drop start text in
        let same : end ≡ start = omega arith in
        ⊎_elim (λ lt. absurd (first (omega arith) (ap (λ k. get_or text k 0) (sym same) ∙ last lt))) (λ le. drop_all end text le) (cases_lt end (length text))

    cut_is : Word text (take (end - start) (drop start text)) (drop end text)
    cut_is =
        record {
          blanks = take start text;
          whole = whole_is;
          before = All-from_get_or (λ b. b ≡ 32) (take start text) 0 (λ i lt. get_or-take start text i 0 (omega (arith, length-take start text)) ∙ before i (omega (arith, length-take start text)));
          plain = plain_is;
          ended = ended_is;
          none = none_is;
        }

    pub cuts : Word text (take (end - start) (drop start text)) (take (length text - end) (drop end text))
    cuts = subst (λ l. Word text (take (end - start) (drop start text)) l) (sym (take_rest text end)) cut_is

-- the word and the rest by recursion: whatever a text is cut into is these
abbrev passed : List ℕ → List ℕ
passed [] = []
passed (b ∷ bs) = cond (eqb b 32) (passed bs) (b ∷ bs)

abbrev front : List ℕ → List ℕ
front [] = []
front (b ∷ bs) = cond (eqb b 32) [] (b ∷ front bs)

abbrev back : List ℕ → List ℕ
back [] = []
back (b ∷ bs) = cond (eqb b 32) (b ∷ bs) (back bs)

passed_blanks : (blanks l : List ℕ) → AllByRecursion (λ b. b ≡ 32) blanks → passed (blanks ++ l) ≡ passed l
passed_blanks [] l h = refl
passed_blanks (b ∷ bs) l h = ap (λ x. cond (eqb x 32) (passed (bs ++ l)) (x ∷ bs ++ l)) h.0 ∙ passed_blanks bs l h.1

passed_word : (w rest : List ℕ) → AllByRecursion (λ b. b ≡ 32 → ⊥) w → (w ≡ [] → rest ≡ []) → passed (w ++ rest) ≡ w ++ rest
passed_word [] rest h n = ap passed (n refl) ∙ sym (n refl)
passed_word (b ∷ bs) rest h n = cond-false (eqb b 32) _ _ (ne_eqb b 32 h.0)

front_word : (w rest : List ℕ) → AllByRecursion (λ b. b ≡ 32 → ⊥) w → Ended rest → front (w ++ rest) ≡ w
front_word [] rest h (inl e) = ap front e
front_word [] rest h (inr p) = ap front p.1
front_word (b ∷ bs) rest h e = cond-false (eqb b 32) _ _ (ne_eqb b 32 h.0) ∙ ap (λ l. b ∷ l) (front_word bs rest h.1 e)

back_word : (w rest : List ℕ) → AllByRecursion (λ b. b ≡ 32 → ⊥) w → Ended rest → back (w ++ rest) ≡ rest
back_word [] rest h (inl e) = ap back e ∙ sym e
back_word [] rest h (inr p) = ap back p.1 ∙ sym p.1
back_word (b ∷ bs) rest h e = cond-false (eqb b 32) _ _ (ne_eqb b 32 h.0) ∙ back_word bs rest h.1 e

abbrev pub first_of : List ℕ → List ℕ
first_of text = front (passed text)

abbrev pub rest_of : List ℕ → List ℕ
rest_of text = back (passed text)

module _ (text w rest : List ℕ) (h : Word text w rest) where
  passed_is : passed text ≡ w ++ rest
  passed_is = ap passed h.whole ∙ passed_blanks h.blanks (w ++ rest) h.before ∙ passed_word w rest h.plain h.none

  pub first_is : first_of text ≡ w
  first_is = ap front passed_is ∙ front_word w rest h.plain h.ended

  pub rest_is : rest_of text ≡ rest
  rest_is = ap back passed_is ∙ back_word w rest h.plain h.ended

  pub length_is : length text ≡ length h.blanks + (length w + length rest)
  length_is = ap length h.whole ∙ length-append h.blanks (w ++ rest) ∙ ap (λ n. length h.blanks + n) (length-append w rest)

pub only : (text w rest : List ℕ) → Word text w rest → WordOnce text w rest
only text w rest h v more g = (sym (first_is text v more g) ∙ first_is text w rest h, sym (rest_is text v more g) ∙ rest_is text w rest h)

pub rest_short : (text w rest : List ℕ) → Word text w rest → 0 < length w → length rest < length text
rest_short text w rest h some = omega (arith, length_is text w rest h)

-- an empty word has nothing behind it
