-- A list's top: its last elements.
use Rattle.std.proofs.Common.{◌≡◌, ℕ, ◌+◌, ◌-◌, ◌<◌, ◌≤◌, List, [], ◌∷◌, ◌++◌, length, get_or, take, drop, sym, ap, ◌∙◌, arith}
use Rattle.std.proofs.Math.Seq.{take-add}
use Rattle.std.proofs.lemmas.Grind.{common_steps}
use Rattle.std.proofs.lemmas.List.{length_push, take_all, take_at, take_more, get_or_push, get_or-drop, take-append-drop, length-append, length-drop, drop_at}
use Rattle.stacks.specs.declared.ops.ClearAmount.{ClearAmount}
use Rattle.stacks.specs.declared.ops.ClearAmount.TheVariants.{TopN, All}
use Rattle.stacks.specs.Operations.{taken, below, last}

module _ {A : Type 0} where
  pub below_push : (xs : List A) (x : A) → below 1 (xs ++ x ∷ []) ≡ xs
  below_push xs x = take_at xs (x ∷ []) (length (xs ++ x ∷ []) - 1) (omega (arith, length_push xs x))

  pub newest_push : (xs : List A) (x d : A) → get_or (xs ++ x ∷ []) (length (xs ++ x ∷ []) - 1) d ≡ x
  newest_push xs x d = get_or_push xs x d (length (xs ++ x ∷ []) - 1) (omega (arith, length_push xs x))

  pub below_none : (xs : List A) → below 0 xs ≡ xs
  below_none xs = take_all (length xs - 0) xs (omega arith)

  -- n off, and m more off
  pub below_more : (n m : ℕ) (xs : List A) → below m (below n xs) ≡ below (n + m) xs
  below_more n m xs = grind (arith, common_steps)

  -- what is left, and then the top
  pub below_last : (n : ℕ) (xs : List A) → xs ≡ below n xs ++ last n xs
  below_last n xs = sym (take-append-drop (length xs - n) xs)

  -- parted elsewhere with as much on top, it is parted there
  pub below_is : (n : ℕ) (xs ys top : List A) → length top ≡ n → xs ≡ ys ++ top → ys ≡ below n xs
  below_is n xs ys top many e = sym (take_at ys top (length xs - n) (omega (arith, ap length e, length-append ys top))) ∙ ap (take (length xs - n)) (sym e)

  pub last_is : (n : ℕ) (xs ys top : List A) → length top ≡ n → xs ≡ ys ++ top → top ≡ last n xs
  last_is n xs ys top many e = sym (drop_at ys top (length xs - n) (omega (arith, ap length e, length-append ys top))) ∙ ap (drop (length xs - n)) (sym e)

-- a Clear takes no more than there are
pub taken_few : (a : ClearAmount) (height : ℕ) → taken a height ≤ height
taken_few (TopN n) height = omega arith
taken_few All height = omega arith

module _ {A : Type 0} where
  -- a list up to i, in two parts
  pub take_parts : (b i : ℕ) (xs : List A) → b ≤ i → take b xs ++ take (i - b) (drop b xs) ≡ take i xs
  take_parts b i xs h = sym (take-add b (i - b) xs) ∙ ap (λ k. take k xs) (omega arith)

  -- the second part, one longer
  pub part_more : (b i : ℕ) (xs : List A) (d : A) → b ≤ i → i < length xs → take (i - b) (drop b xs) ++ get_or xs i d ∷ [] ≡ take (i + 1 - b) (drop b xs)
  part_more b i xs d h lt =
      let up = take_more (drop b xs) (i - b) d (omega (arith, length-drop b xs)) in
      grind (arith, get_or-drop b xs (i - b) d)
