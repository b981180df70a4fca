-- A text before and behind a byte.
use Rattle.std.proofs.Common.{◌≡◌, ◌≢◌, ℕ, zero, suc, ◌+◌, ◌-◌, ◌<◌, ◌≤◌, List, [], ◌∷◌, ◌++◌, length, get_or, take, drop, sym, refl, ap, ◌∙◌, subst, inl, inr, arith}
use Rattle.std.specs.List.{AllByRecursion}
use Rattle.std.proofs.lemmas.List.{take-append-drop, drop_more, take_all, take_rest, drop_all}
use Rattle.lines.specs.Lines.{Splits}

-- a front whose bytes are all others
plain_below : (text : List ℕ) (byte i : ℕ) → i ≤ length text → ((k : ℕ) → k < i → get_or text k 0 ≢ byte) → AllByRecursion (λ b. b ≢ byte) (take i text)
plain_below text byte zero short before = tt
plain_below [] byte (suc i) short before = absurd (omega arith)
plain_below (b ∷ rest) byte (suc i) short before = (before 0 (omega arith), plain_below rest byte i (omega arith) (λ k lt. before (suc k) (omega arith)))

take_none : (n : ℕ) → take {A = ℕ} n [] ≡ []
take_none zero = refl
take_none (suc n) = refl

-- the front and the rest as the code cuts them
pub splits_here : (text : List ℕ) (byte i : ℕ) → i < length text → get_or text i 0 ≡ byte → ((k : ℕ) → k < i → get_or text k 0 ≢ byte) → Splits text byte (take i text) (take (length text - (i + 1)) (drop (i + 1) text))
splits_here text byte i inside found before = record {
  plain = plain_below text byte i (omega arith) before;
  whole = inr (sym (take-append-drop i text) ∙ ap (λ l. take i text ++ l) (drop_more text i 0 inside) ∙ ap (λ b. take i text ++ b ∷ drop (i + 1) text) found ∙ ap (λ l. take i text ++ byte ∷ l) (sym (take_rest text (i + 1))));
}

pub splits_all : (text : List ℕ) (byte : ℕ) → ((k : ℕ) → k < length text → get_or text k 0 ≢ byte) → Splits text byte text (take (length text - length text) (drop (length text) text))
splits_all text byte before = record {
  plain = subst (AllByRecursion (λ b. b ≢ byte)) (take_all (length text) text (omega arith)) (plain_below text byte (length text) (omega arith) before);
  whole = inl (refl, ap (take (length text - length text)) (drop_all (length text) text (omega arith)) ∙ take_none (length text - length text));
}
