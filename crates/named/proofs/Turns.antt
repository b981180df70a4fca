-- One more name behind those that are built.
use Rattle.std.proofs.Common.{◌≡◌, ℕ, List, [], ◌∷◌, ◌++◌, Ok, refl, subst}
use Rattle.scopes.specs.declared.scope.Scope.{Scope}
use Rattle.repository.specs.Names.{Atoms}
use Rattle.repository.specs.Builds.{Builds}
use Rattle.scripts.specs.Words.{Word}
use Rattle.named.specs.Names.{BuildsFirst}

module _ (x : Scope) (name rest behind : List ℕ) (then after : Atoms) (word : Word rest name behind) (some : name ≡ [] → ⊥) (built : Builds then name (Ok x) after) where
  pub one_more : (held : Atoms) (text : List ℕ) (xs : List Scope) → BuildsFirst held text xs then rest → BuildsFirst held text (xs ++ x ∷ []) after behind
  one_more held text [] h =
      (name, behind, after, subst (λ t. Word t name behind) h.1 word, some, subst (λ a. Builds a name (Ok x) after) h.0 built, (refl, refl))
  one_more held text (y ∷ ys) h = (h.0, h.1, h.2, h.3, h.4, h.5, one_more h.2 h.1 ys h.6)
