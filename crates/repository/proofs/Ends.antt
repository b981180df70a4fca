-- The atoms that lie under rising ends.
use Rattle.std.proofs.Common.{◌≡◌, ℕ, zero, suc, ◌+◌, ◌-◌, ◌<◌, ◌≤◌, Bool, true, false, cond, eqb, List, [], ◌∷◌, ◌++◌, length, get_or, take, drop, set, Decides, sym, refl, ap, ◌∙◌, subst, arith, rules}
use borrow.Rule.Slice.PartMut.{put_mid}
use Rattle.std.proofs.lemmas.List.{take-take, take_more_set, take-set, drop_more, length-take-le, length-append, length-drop}
use Rattle.std.proofs.lemmas.Slice.{between_is, take-put_mid_below, between-put_mid}
use Rattle.std.proofs.lemmas.Slice.Eq.{bytes_eq-Decides}
use Rattle.std.proofs.lemmas.Bool.Decides.{same_from_decides}
use Rattle.std.proofs.lemmas.Bool.{cond-true, cond-false, cond_both, eqb-true, eqb-false}
use Rattle.std.specs.Str.{bytes_eq}
use Rattle.repository.specs.declared.tables.Counts.{Counts}
use Rattle.repository.specs.declared.tables.AtomTables.{AtomTables}
use Rattle.repository.specs.Names.{Atoms}
use Rattle.repository.specs.Atoms.{has, place, total}
use Rattle.repository.specs.Tables.{cuts, Rising, held_by, Sound, Front, Grows, Extends}

pub rising_top : (from : ℕ) (es : List ℕ) (top : ℕ) → Rising from es top → from ≤ top
rising_top from [] top h = omega arith
rising_top from (e ∷ es) top h = omega (arith, rising_top e es top h.1)

same_part : (from e top : ℕ) (t u : List ℕ) → e ≤ top → take top t ≡ take top u → take (e - from) (drop from t) ≡ take (e - from) (drop from u)
same_part from e top t u le same =
    between_is t from e ∙ ap (drop from) (sym (take-take e top t le) ∙ ap (take e) same ∙ take-take e top u le) ∙ sym (between_is u from e)

-- the atoms depend on the text below the top alone
pub cuts_same : (from : ℕ) (es : List ℕ) (top : ℕ) (t u : List ℕ) → Rising from es top → take top t ≡ take top u → cuts from es t ≡ cuts from es u
cuts_same from [] top t u h same = refl
cuts_same from (e ∷ es) top t u h same =
    (λ i. same_part from e top t u (rising_top e es top h.1) same i ∷ cuts_same e es top t u h.1 same i)

pub rising_push : (from : ℕ) (es : List ℕ) (top e : ℕ) → Rising from es top → top ≤ e → Rising from (es ++ e ∷ []) e
rising_push from [] top e h le = (omega arith, refl)
rising_push from (x ∷ es) top e h le = (h.0, rising_push x es top e h.1 le)

pub cuts_push : (from : ℕ) (es : List ℕ) (top e : ℕ) (t : List ℕ) → Rising from es top → cuts from (es ++ e ∷ []) t ≡ cuts from es t ++ take (e - top) (drop top t) ∷ []
cuts_push from [] top e t h = ap (λ n. take (e - n) (drop n t) ∷ []) h
cuts_push from (x ∷ es) top e t h = ap (λ l. take (x - from) (drop from t) ∷ l) (cuts_push x es top e t h.1)

pub cuts_length : (from : ℕ) (es t : List ℕ) → length (cuts from es t) ≡ length es
cuts_length from [] t = refl
cuts_length from (e ∷ es) t = ap suc (cuts_length e es t)

pub cuts_total : (from : ℕ) (es : List ℕ) (top : ℕ) (t : List ℕ) → Rising from es top → top ≤ length t → from + total (cuts from es t) ≡ top
cuts_total from [] top t h le = omega arith
cuts_total from (e ∷ es) top t h le =
    let high = rising_top e es top h.1 in
    let there : e - from ≤ length (drop from t) = omega (arith, length-drop from t) in
    omega (arith, cuts_total e es top t h.1 le, length-take-le (e - from) (drop from t) there, h.0)

-- where an atom begins: at the end of the one before it
abbrev pub start_of : ℕ → List ℕ → ℕ → ℕ
start_of from es zero = from
start_of from es (suc n) = get_or es n 0

module _ (t : List ℕ) where
  pub cuts_at : (from : ℕ) (es : List ℕ) (n : ℕ) → n < length es → get_or (cuts from es t) n [] ≡ take (get_or es n 0 - start_of from es n) (drop (start_of from es n) t)
  cuts_at from [] n lt = absurd (omega arith)
  cuts_at from (e ∷ es) zero lt = refl
  cuts_at from (e ∷ es) (suc zero) lt = cuts_at e es zero (omega arith)
  cuts_at from (e ∷ es) (suc (suc n)) lt = cuts_at e es (suc n) (omega arith)

pub rising_between : (from : ℕ) (es : List ℕ) (top n : ℕ) → Rising from es top → n < length es → (start_of from es n ≤ get_or es n 0) × (get_or es n 0 ≤ top)
rising_between from [] top n h lt = absurd (omega arith)
rising_between from (e ∷ es) top zero h lt = (h.0, rising_top e es top h.1)
rising_between from (e ∷ es) top (suc zero) h lt = rising_between e es top zero h.1 (omega arith)
rising_between from (e ∷ es) top (suc (suc n)) h lt = rising_between e es top (suc n) h.1 (omega arith)

start_zero : (from : ℕ) (es : List ℕ) (n : ℕ) → n ≡ 0 → start_of from es n ≡ from
start_zero from es zero e = refl
start_zero from es (suc n) e = absurd (omega arith)

start_some : (from : ℕ) (es : List ℕ) (n : ℕ) → (n ≡ 0 → ⊥) → start_of from es n ≡ get_or es (n - 1) 0
start_some from es zero ne = absurd (ne refl)
start_some from es (suc n) ne = let e : n ≡ suc n - 1 = omega arith in ap (λ m. get_or es m 0) e

front_more : (c d : Counts) (t u v : AtomTables) → Front c t u → Grows c d → Front d u v → Front c t v
front_more c d t u v f g h = record {
  ends = sym (take-take c.atoms d.atoms v.ends g.atoms) ∙ ap (take c.atoms) h.ends ∙ take-take c.atoms d.atoms u.ends g.atoms ∙ f.ends;
  text = sym (take-take c.bytes d.bytes v.text g.bytes) ∙ ap (take c.bytes) h.text ∙ take-take c.bytes d.bytes u.text g.bytes ∙ f.text;
}

pub extends_more : {c d e : Counts} {t u v : AtomTables} → Extends c t d u → Extends d u e v → Extends c t e v
extends_more {c} {d} {e} {t} {u} {v} f g = record {
  sound = g.sound;
  front = front_more c d t u v f.front f.grows g.front;
  grows = record { atoms = omega (arith, f.grows.atoms, g.grows.atoms); bytes = omega (arith, f.grows.bytes, g.grows.bytes) };
}

module _ (c : Counts) (t : AtomTables) (s : Sound c t) where
  pub held_length : length (held_by c t) ≡ c.atoms
  held_length = cuts_length 0 (take c.atoms t.ends) t.text ∙ length-take-le c.atoms t.ends (omega (arith, s.few, s.places))

  pub held_total : total (held_by c t) ≡ c.bytes
  held_total = omega (arith, cuts_total 0 (take c.atoms t.ends) c.bytes t.text s.rising (omega (arith, s.short, s.room)))

  -- lent as slices
  pub lent : cuts 0 (take c.atoms t.ends) (take c.bytes t.text) ≡ held_by c t
  lent = cuts_same 0 (take c.atoms t.ends) c.bytes (take c.bytes t.text) t.text s.rising (take-take c.bytes c.bytes t.text (omega arith))

-- the atom of a number, between the end before it and its own
module _ (text ends : List ℕ) (rising : Rising 0 ends (length text)) (held : Atoms) (is : cuts 0 ends text ≡ held) (n : ℕ) (lt : n < length held) (x : ℕ) (at : x ≡ cond (eqb n 0) 0 (get_or ends (n - 1) 0)) where
  within : n < length ends
  within = omega (arith, ap length is, cuts_length 0 ends text)

  begins : x ≡ start_of 0 ends n
  begins =
      at
      ∙ cond_both (eqb n 0) 0 (get_or ends (n - 1) 0) (λ y. y ≡ start_of 0 ends n)
      (λ z. sym (start_zero 0 ends n (eqb-true n 0 z)))
      (λ z. sym (start_some 0 ends n (eqb-false n 0 z)))

  pub spans : (x ≤ get_or ends n 0) × (get_or ends n 0 ≤ length text)
  spans = let r = rising_between 0 ends (length text) n rising within in (omega (arith, r.0, begins), r.1)

  pub spells : take (get_or ends n 0 - x) (drop x text) ≡ get_or held n []
  spells = ap (λ m. take (get_or ends n 0 - m) (drop m text)) begins ∙ sym (cuts_at text 0 ends n within) ∙ ap (λ l. get_or l n []) is

-- a search has come to the i-th end, and to where its atom begins
module _ (start : ℕ) (ends text : List ℕ) (i : ℕ) (lt : i < length ends) (h : Rising start (drop i ends) (length text)) where
  abbrev Here : List ℕ
  Here = take (get_or ends i 0 - start) (drop start text)

  abbrev Past : Atoms
  Past = cuts (get_or ends i 0) (drop (i + 1) ends) text

  pub turn : (start ≤ get_or ends i 0) × Rising (get_or ends i 0) (drop (i + 1) ends) (length text)
  turn = subst (λ l. Rising start l (length text)) (drop_more ends i 0 lt) h

  pub end_below : get_or ends i 0 ≤ length text
  end_below = rising_top _ _ _ turn.1

  left : cuts start (drop i ends) text ≡ Here ∷ Past
  left = ap (λ l. cuts start l text) (drop_more ends i 0 lt)

  module _ (atom : List ℕ) (r : Bool) (d : Decides r (Here ≡ atom)) where
    same : r ≡ bytes_eq Here atom
    same = same_from_decides r _ d (bytes_eq-Decides _ atom)

    pub here_has : r ≡ true → has (cuts start (drop i ends) text) atom ≡ true
    here_has e = ap (λ l. has l atom) left ∙ cond-true _ _ _ (sym same ∙ e)

    pub here_place : r ≡ true → place (cuts start (drop i ends) text) atom ≡ 0
    here_place e = ap (λ l. place l atom) left ∙ cond-true _ _ _ (sym same ∙ e)

    pub past_has : r ≡ false → has (cuts start (drop i ends) text) atom ≡ has Past atom
    past_has e = ap (λ l. has l atom) left ∙ cond-false _ _ _ (sym same ∙ e)

    pub past_place : r ≡ false → place (cuts start (drop i ends) text) atom ≡ suc (place Past atom)
    past_place e = ap (λ l. place l atom) left ∙ cond-false _ _ _ (sym same ∙ e)

-- one more atom: the text is written from the count of bytes on, and its end at the count of atoms
module _ (c : Counts) (t : AtomTables) (s : Sound c t) (atom : List ℕ) (few : c.atoms < 4096) (short : c.bytes + length atom ≤ 65536) where
  abbrev End : ℕ
  End = c.bytes + length atom

  abbrev NewText : List ℕ
  NewText = put_mid c.bytes (End - c.bytes) t.text atom

  room : End ≤ length t.text
  room = omega (arith, s.room)

  below : take c.bytes NewText ≡ take c.bytes t.text
  below = take-put_mid_below c.bytes (End - c.bytes) t.text atom c.bytes (omega arith) (omega (arith, room))

  ends_new : take (c.atoms + 1) (set t.ends c.atoms End) ≡ take c.atoms t.ends ++ End ∷ []
  ends_new = take_more_set t.ends c.atoms End (omega (arith, s.places))

  pub extended : Extends c t (record { atoms = c.atoms + 1; bytes = End }) (record { text = NewText; ends = set t.ends c.atoms End })
  extended = record {
    sound = record {
      few = omega arith;
      short = short;
      rising = subst (λ l. Rising 0 l End) (sym ends_new) (rising_push 0 (take c.atoms t.ends) c.bytes End s.rising (omega arith));
      places = search rules;
      room = simp (length-append, length-drop) (omega (arith, room, s.room, length-take-le c.bytes t.text (omega (arith, room))));
    };
    front = record { ends = take-set t.ends c.atoms End; text = below };
    grows = record { atoms = omega arith; bytes = omega arith };
  }

  pub held_more : cuts 0 (take (c.atoms + 1) (set t.ends c.atoms End)) NewText ≡ held_by c t ++ atom ∷ []
  held_more =
      ap (λ l. cuts 0 l NewText) ends_new
      ∙ cuts_push 0 (take c.atoms t.ends) c.bytes End _ s.rising
      ∙ (λ i. cuts_same 0 (take c.atoms t.ends) c.bytes NewText t.text s.rising below i ++ between-put_mid c.bytes (End - c.bytes) t.text atom End (omega (arith, room)) (omega arith) i ∷ [])

-- what counts say of the atoms that they hold
pub ruleset counted = (held_length, held_total)
