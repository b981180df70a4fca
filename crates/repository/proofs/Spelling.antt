-- Atoms joined by dots, one after the other.
use Rattle.std.proofs.Common.{◌≡◌, ℕ, zero, suc, ◌+◌, ◌<◌, ◌≤◌, List, [], ◌∷◌, ◌++◌, length, get_or, take, drop, sym, refl, ap, ◌∙◌, arith}
use Rattle.std.specs.List.{flat_map}
use Rattle.std.proofs.lemmas.List.{take_more, take-append-drop, append-nil, append_assoc, flat_map_more, length-append, length-take-le, drop-drop, take_at, drop_at}
use Rattle.repository.specs.Names.{Atom, Atoms, dotted, led}

dotted_push : (xs : Atoms) (a : Atom) → dotted (xs ++ a ∷ []) ≡ dotted xs ++ led (length xs) a
dotted_push [] a = append-nil a
dotted_push (x ∷ xs) a = sym (flat_map_more (λ y. 46 ∷ y) x xs a)

joined_le : (xs ys : Atoms) → length (flat_map (λ y. 46 ∷ y) xs) ≤ length (flat_map (λ y. 46 ∷ y) (xs ++ ys))
joined_le [] ys = omega arith
joined_le (x ∷ xs) ys =
    omega (arith, joined_le xs ys, length-append (46 ∷ x) (flat_map (λ y. 46 ∷ y) xs), length-append (46 ∷ x) (flat_map (λ y. 46 ∷ y) (xs ++ ys)))

dotted_le : (xs ys : Atoms) → length (dotted xs) ≤ length (dotted (xs ++ ys))
dotted_le [] ys = omega arith
dotted_le (x ∷ xs) ys =
    omega (arith, joined_le xs ys, length-append x (flat_map (λ y. 46 ∷ y) xs), length-append x (flat_map (λ y. 46 ∷ y) (xs ++ ys)))

-- one more of the atoms ts
module _ (ts : Atoms) (i : ℕ) (lt : i < length ts) where
  pub dotted_more : dotted (take (i + 1) ts) ≡ dotted (take i ts) ++ led i (get_or ts i [])
  dotted_more =
      ap dotted (take_more ts i [] lt) ∙ dotted_push (take i ts) (get_or ts i []) ∙ ap (λ n. dotted (take i ts) ++ led n (get_or ts i [])) (length-take-le i ts (omega arith))

  pub length_more : length (dotted (take (i + 1) ts)) ≡ length (dotted (take i ts)) + length (led i (get_or ts i []))
  length_more = ap length dotted_more ∙ length-append (dotted (take i ts)) (led i (get_or ts i []))

  pub fits_more : length (dotted (take i ts)) + length (led i (get_or ts i [])) ≤ length (dotted ts)
  fits_more =
      omega (arith, length_more, dotted_le (take (i + 1) ts) (drop (i + 1) ts), ap (λ l. length (dotted l)) (take-append-drop (i + 1) ts))

-- ---- an output whose beginning was written over by p, of n bytes, and by a behind it
module _ (p out : List ℕ) (n : ℕ) (long : length p ≡ n) where
  abbrev Now : List ℕ
  Now = p ++ drop n out

  past : (m : ℕ) → drop (n + m) Now ≡ drop (n + m) out
  past m = sym (drop-drop m n Now) ∙ ap (drop m) (drop_at p (drop n out) n long) ∙ drop-drop m n out

  pub put_more : (a : List ℕ) → take n Now ++ (a ++ drop (n + length a) Now) ≡ p ++ (a ++ drop (n + length a) out)
  put_more a = (λ i. take_at p (drop n out) n long i ++ (a ++ past (length a) i))

-- the same as the code has it: `now` is the output, r is where a ends, and `then` is the output after
pub put_on : (p out now then a : List ℕ) (n r : ℕ) → length p ≡ n → now ≡ p ++ drop n out → r ≡ n + length a → then ≡ take n now ++ (a ++ drop r now) → then ≡ (p ++ a) ++ drop r out
put_on p out now then a n r long e f g =
    g
    ∙ ap (λ l. take n l ++ (a ++ drop r l)) e
    ∙ ap (λ m. take n (p ++ drop n out) ++ (a ++ drop m (p ++ drop n out))) f
    ∙ put_more p out n long a
    ∙ ap (λ m. p ++ (a ++ drop m out)) (sym f)
    ∙ sym (append_assoc p a (drop r out))

pub led_some : (i : ℕ) (a : Atom) → (i ≡ 0 → ⊥) → led i a ≡ 46 ∷ a
led_some zero a ne = absurd (ne refl)
led_some (suc i) a ne = refl

pub ruleset joined = (led_some, length_more, dotted_more, fits_more)
