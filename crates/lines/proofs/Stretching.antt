-- The stretches of a text that a byte ends.
use Rattle.std.proofs.Common.{◌≡◌, ◌≢◌, ℕ, ◌+◌, ◌<◌, ◌≤◌, ◌==◌, true, false, cond, List, [], ◌∷◌, ◌++◌, length, All, sym, refl, ap, ◌∙◌, ⊎_elim, inl, inr, subst, arith}
use Rattle.std.specs.List.{AllByRecursion, onto_first, sum_by}
use Rattle.std.proofs.lemmas.Bool.{eq-eqb, ne_eqb}
use Rattle.std.proofs.lemmas.Bool.Decides.{eqb_tells}
use Rattle.std.proofs.lemmas.List.Elements.{All-from_get_or}
use Rattle.std.proofs.lemmas.List.Sums.{sum_by-cons, get_or-le-sum_by}
use Rattle.lines.specs.Lines.{Splits, stretches}

ended : (byte : ℕ) (front rest : List ℕ) → AllByRecursion (λ b. b ≢ byte) front → stretches byte (front ++ byte ∷ rest) ≡ front ∷ stretches byte rest
ended byte [] rest plain = ap (λ t. cond t ([] ∷ stretches byte rest) (onto_first byte (stretches byte rest))) (eq-eqb byte byte refl)
ended byte (b ∷ front) rest plain =
    ap (λ t. cond t ([] ∷ stretches byte (front ++ byte ∷ rest)) (onto_first b (stretches byte (front ++ byte ∷ rest)))) (ne_eqb b byte plain.0)
    ∙ ap (onto_first b) (ended byte front rest plain.1)

last : (byte b : ℕ) (front : List ℕ) → AllByRecursion (λ b. b ≢ byte) (b ∷ front) → stretches byte (b ∷ front) ≡ (b ∷ front) ∷ []
last byte b [] plain = ap (λ t. cond t ([] ∷ []) ((b ∷ []) ∷ [])) (ne_eqb b byte plain.0)
last byte b (d ∷ front) plain =
    ap (λ t. cond t ([] ∷ stretches byte (d ∷ front)) (onto_first b (stretches byte (d ∷ front)))) (ne_eqb b byte plain.0)
    ∙ ap (onto_first b) (last byte d front plain.1)

last_of : (byte : ℕ) (front : List ℕ) → 0 < length front → AllByRecursion (λ b. b ≢ byte) front → stretches byte front ≡ front ∷ []
last_of byte [] some plain = absurd (omega arith)
last_of byte (b ∷ front) some plain = last byte b front plain

-- the first stretch is what stands before the byte, and the others are those of what stands behind it
pub stretches-Splits : {text : List ℕ} {byte : ℕ} {front rest : List ℕ} → Splits text byte front rest → 0 < length text → stretches byte text ≡ front ∷ stretches byte rest
stretches-Splits {text} {byte} {front} {rest} s some =
    ⊎_elim
    (λ w. ap (stretches byte) w.0 ∙ last_of byte front (omega (arith, ap length w.0)) s.plain ∙ ap (λ l. front ∷ stretches byte l) (sym w.1))
    (λ e. ap (stretches byte) e ∙ ended byte front rest s.plain)
    s.whole

onto_first_longer : (b : ℕ) (parts : List (List ℕ)) → (sum_by length (onto_first b parts) ≡ sum_by length parts + 1) × (length (onto_first b parts) ≤ length parts + 1)
onto_first_longer b [] = (refl, omega arith)
onto_first_longer b (part ∷ parts) = (omega (arith, sum_by-cons length (b ∷ part) parts, sum_by-cons length part parts), omega arith)

-- together they are no longer than the text, and there are no more of them than it has bytes
sizes : (byte : ℕ) (text : List ℕ) → (sum_by length (stretches byte text) ≤ length text) × (length (stretches byte text) ≤ length text)
sizes byte [] = (omega arith, omega arith)
sizes byte (b ∷ rest) =
    let others = sizes byte rest in
    elim (b == byte) as (λ t. (sum_by length (cond t ([] ∷ stretches byte rest) (onto_first b (stretches byte rest))) ≤ length (b ∷ rest)) × (length (cond t ([] ∷ stretches byte rest) (onto_first b (stretches byte rest))) ≤ length (b ∷ rest))) [
      | true ↦ (omega (arith, others.0, sum_by-cons length [] (stretches byte rest)), omega (arith, others.1))
      | false ↦ (omega (arith, others.0, (onto_first_longer b (stretches byte rest)).0), omega (arith, others.1, (onto_first_longer b (stretches byte rest)).1))
    ]

pub few : (byte : ℕ) (text : List ℕ) → length (stretches byte text) ≤ length text
few byte text = (sizes byte text).1

pub short : (byte : ℕ) (text : List ℕ) → All (λ stretch. length stretch ≤ length text) (stretches byte text)
short byte text = All-from_get_or (λ stretch. length stretch ≤ length text) (stretches byte text) [] (λ k inside. omega (arith, (sizes byte text).0, get_or-le-sum_by length (stretches byte text) k [] inside))

-- ---- back from the stretches to the text

record Parts (byte : ℕ) (text : List ℕ) : Type 0 where
  front : List ℕ
  rest : List ℕ
  splits : Splits text byte front rest

longer : (byte b : ℕ) (text : List ℕ) → b ≢ byte → (p : Parts byte text) → Parts byte (b ∷ text)
longer byte b text other p = record {
  front = b ∷ p.front;
  rest = p.rest;
  splits = record { plain = (other, p.splits.plain); whole = ⊎_elim (λ w. inl (ap (λ l. b ∷ l) w.0, w.1)) (λ e. inr (ap (λ l. b ∷ l) e)) p.splits.whole };
}

parts_of : (byte : ℕ) (text : List ℕ) → Parts byte text
parts_of byte [] = record { front = []; rest = []; splits = record { plain = tt; whole = inl (refl, refl) } }
parts_of byte (b ∷ text) =
    ⊎_elim
    (λ same. record { front = []; rest = text; splits = record { plain = tt; whole = inr (ap (λ d. d ∷ text) same.1) } })
    (λ other. longer byte b text other.1 (parts_of byte text))
    (eqb_tells b byte)

-- a text is its first stretch, and a rest that has the other stretches
pub record First (byte : ℕ) (text stretch : List ℕ) (others : List (List ℕ)) : Type 0 where
  pub rest : List ℕ
  pub some : 0 < length text
  pub splits : Splits text byte stretch rest
  pub left : stretches byte rest ≡ others

first_some : (byte b : ℕ) (rest stretch : List ℕ) (others : List (List ℕ)) → stretches byte (b ∷ rest) ≡ stretch ∷ others → First byte (b ∷ rest) stretch others
first_some byte b rest stretch others e =
    let p = parts_of byte (b ∷ rest) in
    let cut : p.front ∷ stretches byte p.rest ≡ stretch ∷ others = sym (stretches-Splits p.splits (omega arith)) ∙ e in
    let same : p.front ≡ stretch = cc in
    record { rest = p.rest; some = omega arith; splits = subst (λ l. Splits (b ∷ rest) byte l p.rest) same p.splits; left = cc }

pub first_of : (byte : ℕ) (text stretch : List ℕ) (others : List (List ℕ)) → stretches byte text ≡ stretch ∷ others → First byte text stretch others
first_of byte [] stretch others e = absurd (cc)
first_of byte (b ∷ rest) stretch others e = first_some byte b rest stretch others e

pub none_left : (byte : ℕ) (text : List ℕ) → stretches byte text ≡ [] → text ≡ []
none_left byte [] e = refl
none_left byte (b ∷ rest) e =
    let p = parts_of byte (b ∷ rest) in
    let cut : p.front ∷ stretches byte p.rest ≡ [] = sym (stretches-Splits p.splits (omega arith)) ∙ e in
    absurd (cc)
