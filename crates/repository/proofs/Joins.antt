-- Cutting at dots undoes joining by dots, and joining undoes cutting.
use Rattle.std.proofs.Common.{◌≡◌, ℕ, ◌+◌, ◌<◌, ◌≤◌, true, false, ◌&&◌, eqb, List, [], ◌∷◌, ◌++◌, length, get_or, take, sym, refl, ap, ◌∙◌, ⊎_elim, arith}
use Rattle.std.specs.List.{flat_map, AllByRecursion}
use Rattle.std.proofs.lemmas.List.{append-nil, length-append, length_push, take_more, take_all}
use Rattle.std.proofs.lemmas.Bool.{cases_Bool, cond-true, cond-false, ne_eqb, eqb-true, eqb-false, and_parts}
use Rattle.repository.specs.Names.{Atom, Atoms, dots, stripped, before, pieces, cut, dotted}
use Rattle.repository.specs.Laws.{Cuts, CutLaw}
use Rattle.repository.proofs.Cutting.{behind, behind_nil, some_pieces, strip_dot, strip_other, Dots, strip_dots}

-- no byte is a dot
abbrev Plain : Atom → Type 0
Plain a = AllByRecursion (λ b. b ≡ 46 → ⊥) a

-- ---- joining undoes cutting

dotted_dot : (ps : Atoms) → 0 < length ps → dotted ([] ∷ ps) ≡ 46 ∷ dotted ps
dotted_dot [] some = absurd (omega arith)
dotted_dot (p ∷ ps) some = refl

dotted_before : (b : ℕ) (ps : Atoms) → 0 < length ps → dotted (before b ps) ≡ b ∷ dotted ps
dotted_before b [] some = absurd (omega arith)
dotted_before b (p ∷ ps) some = refl

dotted_pieces : (t : List ℕ) → dotted (pieces t) ≡ t
dotted_pieces [] = refl
dotted_pieces (b ∷ bs) =
    ⊎_elim
    (λ (e : eqb b 46 ≡ true). simp e (dotted_dot (pieces bs) (some_pieces bs) ∙ (λ i. sym (eqb-true b 46 e) i ∷ dotted_pieces bs i)))
    (λ (e : eqb b 46 ≡ false). simp e (dotted_before b (pieces bs) (some_pieces bs) ∙ ap (λ l. b ∷ l) (dotted_pieces bs)))
    (cases_Bool (eqb b 46))

plain_before : (b : ℕ) (ps : Atoms) → (b ≡ 46 → ⊥) → AllByRecursion Plain ps → AllByRecursion Plain (before b ps)
plain_before b [] ne h = ((ne, tt), tt)
plain_before b (p ∷ ps) ne h = ((ne, h.0), h.1)

pieces_plain : (t : List ℕ) → AllByRecursion Plain (pieces t)
pieces_plain [] = (tt, tt)
pieces_plain (b ∷ bs) =
    ⊎_elim
    (λ (e : eqb b 46 ≡ true). simp e (tt, pieces_plain bs))
    (λ (e : eqb b 46 ≡ false). simp e (plain_before b (pieces bs) (eqb-false b 46 e) (pieces_plain bs)))
    (cases_Bool (eqb b 46))

-- ---- cutting undoes joining

before_behind : (b : ℕ) (a : Atom) (ps : Atoms) → before b (behind a ps) ≡ behind (b ∷ a) ps
before_behind b a [] = refl
before_behind b a (p ∷ ps) = refl

pieces_plain_front : (a : Atom) (t : List ℕ) → Plain a → pieces (a ++ t) ≡ behind a (pieces t)
pieces_plain_front [] t h = sym (behind_nil (pieces t) (some_pieces t))
pieces_plain_front (b ∷ a) t h =
    cond-false (eqb b 46) _ _ (ne_eqb b 46 h.0) ∙ ap (before b) (pieces_plain_front a t h.1) ∙ before_behind b a (pieces t)

pieces_dotted : (a : Atom) (rest : Atoms) → Plain a → AllByRecursion Plain rest → pieces (dotted (a ∷ rest)) ≡ a ∷ rest
pieces_dotted a [] h k = pieces_plain_front a [] h ∙ ap (λ l. l ∷ []) (append-nil a)
pieces_dotted a (b ∷ rest) h k =
    pieces_plain_front a (flat_map (λ x. 46 ∷ x) (b ∷ rest)) h
    ∙ ap (λ l. behind a ([] ∷ l)) (pieces_dotted b rest k.0 k.1)
    ∙ ap (λ l. l ∷ (b ∷ rest)) (append-nil a)

-- ---- the dots at the end

all_dots : (xs : List ℕ) → dots xs ≡ true → Dots xs
all_dots [] h = tt
all_dots (x ∷ xs) h = let b = and_parts (eqb x 46) (dots xs) h in (eqb-true x 46 b.0, all_dots xs b.1)

record Split (xs : List ℕ) : Type 0 where
  ending : List ℕ
  whole : xs ≡ stripped xs ++ ending
  all : Dots ending

split : (xs : List ℕ) → Split xs
split [] = record { ending = []; whole = refl; all = tt }
split (x ∷ xs) =
    ⊎_elim
    (λ (e : dots (x ∷ xs) ≡ true). record { ending = x ∷ xs; whole = ap (λ l. l ++ (x ∷ xs)) (sym (cond-true (dots (x ∷ xs)) [] (x ∷ stripped xs) e)); all = all_dots (x ∷ xs) e })
    (λ (e : dots (x ∷ xs) ≡ false). let r = split xs in record { ending = r.ending; whole = ap (λ l. x ∷ l) r.whole ∙ ap (λ l. l ++ r.ending) (sym (cond-false (dots (x ∷ xs)) [] (x ∷ stripped xs) e)); all = r.all })
    (cases_Bool (dots (x ∷ xs)))

dots_stripped : (xs : List ℕ) → dots (stripped xs) ≡ dots xs
dots_stripped [] = refl
dots_stripped (x ∷ xs) =
    ⊎_elim
    (λ (e : dots (x ∷ xs) ≡ true). ap dots (cond-true (dots (x ∷ xs)) [] (x ∷ stripped xs) e) ∙ sym e)
    (λ (e : dots (x ∷ xs) ≡ false). ap dots (cond-false (dots (x ∷ xs)) [] (x ∷ stripped xs) e) ∙ ap (λ t. eqb x 46 && t) (dots_stripped xs))
    (cases_Bool (dots (x ∷ xs)))

strip_twice : (xs : List ℕ) → stripped (stripped xs) ≡ stripped xs
strip_twice [] = refl
strip_twice (x ∷ xs) =
    ⊎_elim
    (λ (e : dots (x ∷ xs) ≡ true). let z = cond-true (dots (x ∷ xs)) [] (x ∷ stripped xs) e in ap stripped z ∙ sym z)
    (λ (e : dots (x ∷ xs) ≡ false).
    let z = cond-false (dots (x ∷ xs)) [] (x ∷ stripped xs) e in
    ap stripped z ∙ cond-false (dots (x ∷ stripped xs)) [] (x ∷ stripped (stripped xs)) (ap (λ t. eqb x 46 && t) (dots_stripped xs) ∙ e) ∙ ap (λ l. x ∷ l) (strip_twice xs) ∙ sym z)
    (cases_Bool (dots (x ∷ xs)))

strip_short : (xs : List ℕ) → length (stripped xs) ≤ length xs
strip_short xs = let r = split xs in omega (arith, ap length r.whole, length-append (stripped xs) r.ending)

no_dot_left : (xs front : List ℕ) → stripped xs ≡ front ++ 46 ∷ [] → ⊥
no_dot_left xs front e =
    let s : stripped xs ≡ stripped front = sym (strip_twice xs) ∙ ap stripped e ∙ strip_dot front in
    omega (arith, ap length s, ap length e, length_push front 46, strip_short front)

strip_none : (xs : List ℕ) → ((front : List ℕ) → xs ≡ front ++ 46 ∷ [] → ⊥) → stripped xs ≡ xs
strip_none [] h = refl
strip_none (x ∷ xs) h =
    let all : List ℕ = x ∷ xs in
    let n : ℕ = length xs in
    let last : all ≡ take n all ++ get_or all n 0 ∷ [] = sym (take_all (n + 1) all (omega arith)) ∙ take_more all n 0 (omega arith) in
    let ne : get_or all n 0 ≡ 46 → ⊥ = λ e. h (take n all) (last ∙ ap (λ b. take n all ++ b ∷ []) e) in
    ap stripped last ∙ strip_other (take n all) (get_or all n 0) ne ∙ sym last

-- ---- the atoms of a name

pub cut_cuts : (name : List ℕ) → Cuts name (cut name)
cut_cuts [] = record {
  ending = [];
  whole = refl;
  dots = tt;
  stripped = λ front e. omega (arith, ap length e, length_push front 46);
  plain = tt;
  none = λ _. refl;
  empty = λ _. refl;
}
cut_cuts (b ∷ bs) =
    let name : List ℕ = b ∷ bs in
    let r = split name in
    record {
      ending = r.ending;
      whole = r.whole ∙ ap (λ l. l ++ r.ending) (sym (dotted_pieces (stripped name)));
      dots = r.all;
      stripped = λ front e. no_dot_left name front (sym (dotted_pieces (stripped name)) ∙ e);
      plain = pieces_plain (stripped name);
      none = λ e. absurd (omega (arith, ap length e, some_pieces (stripped name)));
      empty = λ e. absurd (omega (arith, ap length e));
    }

strip_is : (name : List ℕ) (atoms : Atoms) (c : Cuts name atoms) → stripped name ≡ dotted atoms
strip_is name atoms c = ap stripped c.whole ∙ strip_dots (dotted atoms) c.ending c.dots ∙ strip_none (dotted atoms) c.stripped

cut_only : (name : List ℕ) (atoms : Atoms) → Cuts name atoms → atoms ≡ cut name
cut_only [] atoms c = c.empty refl
cut_only (b ∷ bs) [] c = absurd (omega (arith, ap length (c.none refl)))
cut_only (b ∷ bs) (a ∷ rest) c = sym (ap pieces (strip_is (b ∷ bs) (a ∷ rest) c) ∙ pieces_dotted a rest c.plain.0 c.plain.1)

pub cut_law : (name : List ℕ) → CutLaw name
cut_law name = record { cuts = cut_cuts name; only = cut_only name }
