-- A scope's name, built again, is the scope.
use Rattle.std.proofs.Common.{◌≡◌, ℕ, zero, suc, ◌+◌, ◌-◌, ◌<◌, Bool, true, false, cond, ltb, List, [], ◌∷◌, ◌++◌, length, get_or, take, IfOk, Ok, Err, Result, sym, refl, ap, ◌∙◌, subst, ⊎_elim, arith}
use Rattle.std.specs.List.{AllByRecursion}
use Rattle.std.specs.Str.{bytes_eq}
use Rattle.std.proofs.ByRecursion.{All-weaker}
use Rattle.std.proofs.lemmas.Slice.Eq.{bytes_eq-Decides}
use Rattle.std.proofs.lemmas.List.{append-nil, append_assoc, get_or_append_left, length-append}
use Rattle.std.proofs.lemmas.Bool.{cases_Bool, cond-true, cond-false, and_parts, and_from, le-leb}
use Rattle.repository.specs.declared.faults.NameFault.{NameFault}
use Rattle.scopes.specs.declared.scope.Scope.{Scope}
use Rattle.scopes.specs.Scopes.{atoms_in}
use Rattle.repository.specs.Names.{Atom, Atoms, ascii, cut, dotted}
use Rattle.repository.specs.Atoms.{has, place, news, learned, fields_for}
use Rattle.repository.specs.Builds.{Accepted, Builds}
use Rattle.repository.specs.Writes.{given, texts, spelling}
use Rattle.repository.specs.Laws.{Cuts, NewLaw, RoundTrip}
use Rattle.repository.proofs.Places.{has_append, has_learned, place_below, place_at, place_append, learned_news}
use Rattle.repository.proofs.Builds.{accepted, was_ascii, was_eight}
use Rattle.repository.proofs.Joins.{cut_cuts, cut_law}

-- ---- each of some atoms is among them, and once learned is held

abbrev Held : Atoms → Atoms → Type 0
Held held atoms = AllByRecursion (λ a. has held a ≡ true) atoms

has_more : (x : Atom) (xs : Atoms) (a : Atom) → has xs a ≡ true → has (x ∷ xs) a ≡ true
has_more x xs a h = elim (bytes_eq x a) as (λ t. cond t true (has xs a) ≡ true) [ true ↦ refl | false ↦ h ]

own : (xs : Atoms) → Held xs xs
own [] = tt
own (x ∷ xs) = (cond-true _ true _ ((bytes_eq-Decides x x).1 refl), All-weaker (λ a. has xs a ≡ true) (λ a. has (x ∷ xs) a ≡ true) (has_more x xs) xs (own xs))

or_right : (t u : Bool) → u ≡ true → cond t true u ≡ true
or_right true u h = refl
or_right false u h = h

learned_held : (held xs : Atoms) → Held (learned held xs) xs
learned_held held xs = All-weaker (λ a. has xs a ≡ true) (λ a. has (learned held xs) a ≡ true) (λ a h. has_learned held xs a ∙ or_right (has held a) (has xs a) h) xs (own xs)

held_grows : (held more xs : Atoms) → Held held xs → Held (held ++ more) xs
held_grows held more xs h = All-weaker (λ a. has held a ≡ true) (λ a. has (held ++ more) a ≡ true) (λ a k. has_append held more a ∙ cond-true (has held a) true _ k) xs h

pub learned_none : (held xs : Atoms) → Held held xs → learned held xs ≡ held
learned_none held [] h = refl
learned_none held (x ∷ xs) h = ap (λ l. learned l xs) (cond-true (has held x) held (held ++ x ∷ []) h.0) ∙ learned_none held xs h.1

-- ---- the new ones

news_own : (held xs : Atoms) → Held xs (news held xs)
news_own held [] = tt
news_own held (x ∷ xs) =
    let wider : (ys : Atoms) → Held xs ys → Held (x ∷ xs) ys = λ ys h. All-weaker (λ a. has xs a ≡ true) (λ a. has (x ∷ xs) a ≡ true) (has_more x xs) ys h in
    ⊎_elim
    (λ (e : has held x ≡ true). simp e (wider (news held xs) (news_own held xs)))
    (λ (e : has held x ≡ false). simp e ((own (x ∷ xs)).0, wider (news (held ++ x ∷ []) xs) (news_own (held ++ x ∷ []) xs)))
    (cases_Bool (has held x))

abbrev Once : Atoms → Atoms → Type 0
Once held new = (i : ℕ) → i < length new → has (held ++ take i new) (get_or new i []) ≡ false

once_more : (held : Atoms) (x : Atom) (new : Atoms) → has held x ≡ false → Once (held ++ x ∷ []) new → Once held (x ∷ new)
once_more held x new e h zero lt = ap (λ l. has l x) (append-nil held) ∙ e
once_more held x new e h (suc i) lt = ap (λ l. has l (get_or new i [])) (sym (append_assoc held (x ∷ []) (take i new))) ∙ h i (omega arith)

news_once : (held xs : Atoms) → Once held (news held xs)
news_once held [] = λ i lt. absurd (omega arith)
news_once held (x ∷ xs) =
    ⊎_elim
    (λ (e : has held x ≡ true). let z : news held (x ∷ xs) ≡ news held xs = cond-true (has held x) (news held xs) _ e in rw z (news_once held xs))
    (λ (e : has held x ≡ false). let z : news held (x ∷ xs) ≡ x ∷ news (held ++ x ∷ []) xs = cond-false (has held x) (news held xs) _ e in rw z (once_more held x (news (held ++ x ∷ []) xs) e (news_once (held ++ x ∷ []) xs)))
    (cases_Bool (has held x))

pub new_law : (held atoms : Atoms) → NewLaw held atoms
new_law held atoms = record {
  own = news_own held atoms;
  once = news_once held atoms;
  all = subst (λ l. Held l atoms) (learned_news held atoms) (learned_held held atoms);
}

ascii_front : (xs ys : List ℕ) → ascii (xs ++ ys) ≡ true → ascii xs ≡ true
ascii_front [] ys h = refl
ascii_front (x ∷ xs) ys h = let b = and_parts (ltb x 128) (ascii (xs ++ ys)) h in and_from (ltb x 128) (ascii xs) b.0 (ascii_front xs ys b.1)

-- ---- the fields of atoms that are held, read back in a repository that begins with them

module _ (held more : Atoms) where
  text_back : (a : Atom) → has held a ≡ true → get_or (held ++ more) (place held a + 1 - 1) [] ≡ a
  text_back a h =
      let e : place held a + 1 - 1 ≡ place held a = omega arith in
      ap (λ n. get_or (held ++ more) n []) e ∙ get_or_append_left held more [] (place held a) (place_below held a h) ∙ place_at held a h

  texts_back : (xs : Atoms) → Held held xs → texts (held ++ more) (fields_for held xs) ≡ xs
  texts_back [] h = refl
  texts_back (x ∷ xs) h = (λ i. text_back x h.0 i ∷ texts_back xs h.1 i)

  given_back : (xs : Atoms) → Held held xs → given (held ++ more) (fields_for held xs) ≡ true
  given_back [] h = refl
  given_back (x ∷ xs) h =
      and_from _ _ (le-leb (place held x + 1) (length (held ++ more)) (omega (arith, place_below held x h.0, length-append held more))) (given_back xs h.1)

  fields_back : (xs : Atoms) → Held held xs → fields_for (held ++ more) xs ≡ fields_for held xs
  fields_back [] h = refl
  fields_back (x ∷ xs) h = (λ i. (place_append held more x h.0 i + 1) ∷ fields_back xs h.1 i)

-- ---- the round trip

-- the empty name is that of no atoms, or of one empty atom
no_text : (atoms : Atoms) → (atoms ≡ [] ∷ [] → ⊥) → dotted atoms ≡ [] → atoms ≡ []
no_text [] some e = refl
no_text ([] ∷ []) some e = absurd (some refl)
no_text ([] ∷ (b ∷ rest)) some e = absurd (omega (arith, ap length e))
no_text ((x ∷ a) ∷ rest) some e = absurd (omega (arith, ap length e))

-- a name without dots at its end is cut into the same atoms
cut_again : (name : List ℕ) (atoms : Atoms) → Cuts name atoms → (atoms ≡ [] ∷ [] → ⊥) → cut (dotted atoms) ≡ atoms
cut_again name atoms c some =
    sym
    ((cut_law (dotted atoms)).only atoms
    (record {
      ending = [];
      whole = sym (append-nil (dotted atoms));
      dots = tt;
      stripped = c.stripped;
      plain = c.plain;
      none = λ e. ap dotted e;
      empty = no_text atoms some;
    }))

module _ (held : Atoms) (name : List ℕ) (s : Scope) (after : Atoms) (a : Accepted held name s after) where
  all_held : Held after (cut name)
  all_held = subst (λ l. Held l (cut name)) (learned_news held (cut name) ∙ sym a.atoms) (learned_held held (cut name))

  pub returning : RoundTrip after name s
  returning later l =
      let ps = cut name in
      let c = cut_cuts name in
      let more = l.more in
      let fields : atoms_in s ≡ fields_for after ps = a.fields in
      let text : texts later (atoms_in s) ≡ ps = (λ i. texts (l.begins i) (fields i)) ∙ texts_back after more ps all_held in
      let spelled : spelling later s ≡ dotted ps = ap dotted text in
      let plain : ascii (spelling later s) ≡ true = ap ascii spelled ∙ ascii_front (dotted ps) c.ending (sym (ap ascii c.whole) ∙ was_ascii held name a.unrefused) in
      let still : Held later ps = subst (λ m. Held m ps) (sym l.begins) (held_grows after more ps all_held) in
      record {
        written = (λ i. given (l.begins i) (fields i)) ∙ given_back after more ps all_held;
        spelled = spelled;
        built = λ some.
            let again : cut (spelling later s) ≡ ps = ap cut spelled ∙ cut_again name ps c some in
            accepted later (spelling later s) plain (omega (arith, ap length again, was_eight held name a.unrefused)) later (sym (ap (learned later) again ∙ learned_none later ps still)) l.few l.short s (fields ∙ sym ((λ i. fields_for (l.begins i) (again i)) ∙ fields_back after more ps all_held));
      }

-- the same of whatever `build` answered
pub returns_built : (held : Atoms) (name : List ℕ) (r : Result Scope NameFault) (after : Atoms) → Builds held name r after → IfOk r (λ s. RoundTrip after name s)
returns_built held name (Ok s) after b = returning held name s after b
returns_built held name (Err f) after b = tt
