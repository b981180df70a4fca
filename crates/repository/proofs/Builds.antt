-- A name that is not refused, and its scope.
use Rattle.std.proofs.Common.{◌≡◌, ℕ, ◌≤◌, true, List, [], ◌∷◌, length, None, refl, ap, ◌∙◌, arith}
use Rattle.std.proofs.lemmas.Grind.{common_steps}
use Rattle.repository.specs.Names.{Atoms, ascii, cut}
use Rattle.repository.specs.Atoms.{total, learned, fields_for}
use Rattle.repository.specs.Refusals.{known, refusal}
use Rattle.repository.specs.Builds.{Accepted}
use Rattle.scopes.specs.declared.scope.Scope.{Scope}
use Rattle.scopes.specs.Scopes.{atoms_in}
use Rattle.repository.proofs.Places.{learned_news}

-- what keeps a name from each refusal
module _ (held : Atoms) (name : List ℕ) where
  pub unrefused : ascii name ≡ true → length (cut name) ≤ 8 → length (known held name) ≤ 4096 → total (known held name) ≤ 65536 → refusal held name ≡ None
  unrefused a n l t = grind (arith, common_steps)

  pub accepted : ascii name ≡ true → length (cut name) ≤ 8 → (all : Atoms) → all ≡ learned held (cut name) → length all ≤ 4096 → total all ≤ 65536 → (s : Scope) → atoms_in s ≡ fields_for all (cut name) → Accepted held name s all
  accepted a n all same l t s f =
      let is : all ≡ known held name = same ∙ learned_news held (cut name) in
      record { unrefused = unrefused a n (omega (arith, ap length is)) (omega (arith, ap total is)); atoms = is; fields = f }

  -- and what one that is not refused shows
  module _ (e : refusal held name ≡ None) where
    pub was_ascii : ascii name ≡ true
    was_ascii = grind (arith, common_steps)

    pub was_eight : length (cut name) ≤ 8
    was_eight = grind (arith, common_steps)

-- the empty name
pub accepted_none : (held : Atoms) (name : List ℕ) → length name ≡ 0 → length held ≤ 4096 → total held ≤ 65536 → (s : Scope) → atoms_in s ≡ [] → Accepted held name s held
accepted_none held [] z few short s f = accepted held [] refl (omega arith) held refl few short s f
accepted_none held (b ∷ bs) z few short s f = absurd (omega arith)
