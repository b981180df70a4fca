-- A listing as it grows, line by line.
use Rattle.std.proofs.Common.{◌≡◌, ℕ, ◌+◌, ◌-◌, ◌≤◌, Bool, true, false, cond, not, List, [], ◌∷◌, ◌++◌, length, drop, is_some, sym, refl, ap, ◌∙◌, subst, arith}
use Rattle.std.proofs.lemmas.List.{append-nil, append_assoc, length_push, length-take, length-drop}
use Rattle.std.proofs.lemmas.List.Elements.{All-head, All-tail}
use Rattle.std.specs.List.{All, AllZip}
use Rattle.lines.specs.Lines.{Trimmed, stretches}
use Rattle.lines.proofs.Stretching.{first_of, none_left, few, short}
use Rattle.repository.specs.Names.{Atoms}
use Rattle.repository.specs.Refusals.{refusal}
use Rattle.pane.specs.declared.tally.Tally.{Tally}
use Rattle.pane.specs.Listing.{On, next, held_after, scopes_of, Listing}

-- the names on a text's lines
on_lines : (lines names : List (List ℕ)) (text : List ℕ) → stretches 10 text ≡ lines → AllZip Trimmed lines names → On text names
on_lines [] [] text e each = none_left 10 text e
on_lines [] (name ∷ names) text e each = absurd each
on_lines (line ∷ lines) [] text e each = absurd each
on_lines (line ∷ lines) (name ∷ names) text e each =
    let first = first_of 10 text line lines e in
    (first.rest, (record { some = first.some; line = line; splits = first.splits; trimmed = each.0 }, on_lines lines names first.rest first.left each.1))

-- the names before the lines that are left are done
pub record SoFar (text : List ℕ) (left : List (List ℕ)) (held : Atoms) (tally : Tally) (now : Atoms) : Type 0 where
  pub done : List (List ℕ)
  pub before : (names : List (List ℕ)) → AllZip Trimmed left names → On text (done ++ names)
  pub read : tally.read ≡ length done
  pub scopes : tally.scopes ≡ scopes_of held done
  pub atoms : now ≡ held_after held done
  pub few : length done + length left ≤ length text
  pub short : All (λ line. length line ≤ length text) left

held_push : (held : Atoms) (names : List (List ℕ)) (name : List ℕ) → held_after held (names ++ name ∷ []) ≡ next (held_after held names) name
held_push held [] name = refl
held_push held (n ∷ names) name = held_push (next held n) names name

scopes_push : (held : Atoms) (names : List (List ℕ)) (name : List ℕ) → scopes_of held (names ++ name ∷ []) ≡ scopes_of held names + cond (is_some (refusal (held_after held names) name)) 0 1
scopes_push held [] name = omega arith
scopes_push held (n ∷ names) name = omega (arith, scopes_push (next held n) names name)

turned : (t : Bool) → ◌≡◌ {A = ℕ} (cond (not t) 1 0) (cond t 0 1)
turned true = refl
turned false = refl

-- one name more
pub more : {text line : List ℕ} {left : List (List ℕ)} {held : Atoms} {tally then : Tally} {now now' : Atoms} {name : List ℕ} {scope : Bool} → SoFar text (line ∷ left) held tally now → Trimmed line name → scope ≡ not (is_some (refusal now name)) → now' ≡ next now name → then.read ≡ tally.read + 1 → then.scopes ≡ tally.scopes + cond scope 1 0 → SoFar text left held then now'
more {text} {line} {left} {held} {tally} {then} {now} {now'} {name} {scope} s trimmed told e r c = record {
  done = s.done ++ name ∷ [];
  before = λ names each. subst (On text) (sym (append_assoc s.done (name ∷ []) names)) (s.before (name ∷ names) (trimmed, each));
  read = omega (arith, r, s.read, length_push s.done name);
  scopes =
      c
      ∙ (λ i. s.scopes i + cond (told i) 1 0)
      ∙ ap (λ n. scopes_of held s.done + n) (turned (is_some (refusal now name)) ∙ ap (λ l. cond (is_some (refusal l name)) 0 1) s.atoms)
      ∙ sym (scopes_push held s.done name);
  atoms = e ∙ ap (λ l. next l name) s.atoms ∙ sym (held_push held s.done name);
  few = omega (arith, s.few, length_push s.done name);
  short = All-tail (λ line. length line ≤ length text) line left s.short;
}

pub none : (text : List ℕ) (held : Atoms) (tally : Tally) → tally.read ≡ 0 → tally.scopes ≡ 0 → SoFar text (stretches 10 text) held tally held
none text held tally r c = record {
  done = [];
  before = λ names each. on_lines (stretches 10 text) names text refl each;
  read = r;
  scopes = c;
  atoms = refl;
  few = omega (arith, few 10 text);
  short = short 10 text;
}

pub all : {text : List ℕ} {held : Atoms} {tally : Tally} {now : Atoms} → SoFar text [] held tally now → Listing text held tally now
all {text} s = record {
  names = s.done;
  on = subst (On text) (append-nil s.done) (s.before [] tt);
  read = s.read;
  scopes = s.scopes;
  atoms = s.atoms;
}

-- a name is no longer than its line
pub trimmed_short : {text line name : List ℕ} {left : List (List ℕ)} {held : Atoms} {tally : Tally} {now : Atoms} → SoFar text (line ∷ left) held tally now → Trimmed line name → length name ≤ length text
trimmed_short {text} {line} {left = left} s t =
    omega (arith, All-head (λ line. length line ≤ length text) line left s.short, ap length t.is, length-take (t.to - t.from) (drop t.from line), length-drop t.from line)
