-- What an outline is told moves its scopes.
use Rattle.std.proofs.Common.{◌≡◌, ◌-◌, List, [], ◌∷◌, map, length, sym, refl, ap, ◌∙◌, arith}
use Rattle.std.proofs.lemmas.List.{length-map, map_push, take-map}
use Rattle.std.proofs.lemmas.Grind.{common_steps}
use Rattle.scopes.specs.declared.scope.Scope.{Scope}
use Rattle.stacks.specs.declared.ops.BasicScopeStackOp.{BasicScopeStackOp}
use Rattle.stacks.specs.declared.ops.BasicScopeStackOp.TheVariants.{Push, Pop}
use Rattle.stacks.specs.declared.outline.Beginning.{Beginning}
use Rattle.stacks.specs.declared.outline.Place.{Place}
use Rattle.stacks.specs.Operations.{below}
use Rattle.stacks.specs.Outlines.{scopes_of, begun, outlined, outlines, Outlined}
use Rattle.stacks.specs.Tellings.{Telling, grown, Chain}

module _ {A B : Type 0} (f : A → B) where
  map_grown : (x : A) (xs : List A) → map f (grown x xs) ≡ grown (f x) (map f xs)
  map_grown x xs = grind (arith, common_steps, map_push f xs x, length-map xs f)

  map_below : (xs : List A) → map f (below 1 xs) ≡ below 1 (map f xs)
  map_below xs = grind (arith, take-map f (length xs - 1) xs, length-map xs f)

pub moves : (place : Place) (op : BasicScopeStackOp) (before after : List Beginning) → after ≡ outlined place op before → Outlined place op before after
moves place (Push x) before after e = record { places = e; scopes = ap scopes_of e ∙ map_grown (λ (b : Beginning). b.scope) (record { scope = x; place = place }) before }
moves place Pop before after e = record { places = e; scopes = ap scopes_of e ∙ map_below (λ (b : Beginning). b.scope) before }

-- a chain of tellings at one place
pub chain_outlines : (place : Place) (ts : List Telling) (o p : List Beginning) → Chain (λ place op stack o p. Outlined place op o p) place ts o p → p ≡ outlines place ts o
chain_outlines place [] o p e = sym e
chain_outlines place (t ∷ ts) o p r = chain_outlines place ts r.0 p r.2 ∙ ap (outlines place ts) r.1.places

pub scopes_begun : (place : Place) (xs : List Scope) → scopes_of (begun place xs) ≡ xs
scopes_begun place [] = refl
scopes_begun place (x ∷ xs) = ap (λ ys. x ∷ ys) (scopes_begun place xs)
