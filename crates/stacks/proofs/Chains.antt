-- Chains of tellings: one telling more, and what they come to.
use Rattle.std.proofs.Common.{◌≡◌, ℕ, zero, suc, ◌+◌, List, [], ◌∷◌, ◌++◌, sym, refl, ap, ◌∙◌, subst, arith}
use Rattle.std.proofs.lemmas.List.{append-nil, append_assoc, replicate_more}
use Rattle.scopes.specs.declared.scope.Scope.{Scope}
use Rattle.stacks.specs.declared.ops.BasicScopeStackOp.{BasicScopeStackOp}
use Rattle.stacks.specs.declared.ops.BasicScopeStackOp.TheVariants.{Push, Pop}
use Rattle.stacks.specs.Operations.{below}
use Rattle.stacks.specs.Tellings.{Telling, moved, pushes, pops, cuts, Chain}
use Rattle.stacks.proofs.Tops.{below_more}

-- each push is told with the scopes up to it
pushes_push : (xs ys : List Scope) (y : Scope) → pushes xs (ys ++ y ∷ []) ≡ pushes xs ys ++ record { act = Push y; stack = (xs ++ ys) ++ y ∷ [] } ∷ []
pushes_push xs [] y = ap (λ zs. record { act = Push y; stack = zs ++ y ∷ [] } ∷ []) (sym (append-nil xs))
pushes_push xs (x ∷ ys) y =
    ap
    (λ ts. record { act = Push x; stack = xs ++ x ∷ [] } ∷ ts)
    (pushes_push (xs ++ x ∷ []) ys y ∙ ap (λ zs. pushes (xs ++ x ∷ []) ys ++ record { act = Push y; stack = zs ++ y ∷ [] } ∷ []) (append_assoc xs (x ∷ []) ys))

-- each pop is told with what it leaves
pops_push : (xs : List Scope) (n : ℕ) → pops xs (suc n) ≡ pops xs n ++ record { act = Pop; stack = below (suc n) xs } ∷ []
pops_push xs zero = refl
pops_push xs (suc n) =
    ap
    (λ ts. record { act = Pop; stack = below 1 xs } ∷ ts)
    (pops_push (below 1 xs) n ∙ ap (λ zs. pops (below 1 xs) n ++ record { act = Pop; stack = zs } ∷ []) (below_more 1 (suc n) xs ∙ ap (λ k. below k xs) (omega arith)))

-- what some tellings make of a list of scopes
abbrev pub moved_all : List Telling → List Scope → List Scope
moved_all [] xs = xs
moved_all (x ∷ ts) xs = moved_all ts (moved x.act xs)

module _ {S H : Type 0} (told : S → BasicScopeStackOp → List Scope → H → H → Type 0) (shown : S) where
  pub chain_push : (ts : List Telling) (x : Telling) (s m t : H) → Chain told shown ts s m → told shown x.act x.stack m t → Chain told shown (ts ++ x ∷ []) s t
  chain_push [] x s m t e h = (t, subst (λ y. told shown x.act x.stack y t) (sym e) h, refl)
  chain_push (y ∷ ts) x s m t r h = (r.0, r.1, chain_push ts x r.0 m t r.2 h)

  pub chain_pops : (xs : List Scope) (n : ℕ) (s m t : H) → Chain told shown (pops xs n) s m → told shown Pop (below (n + 1) xs) m t → Chain told shown (pops xs (n + 1)) s t
  chain_pops xs n s m t r h =
      let e : suc n ≡ n + 1 = omega arith in
      subst (λ k. Chain told shown (pops xs k) s t) e
      (subst (λ ts. Chain told shown ts s t) (sym (pops_push xs n)) (chain_push (pops xs n) _ s m t r (subst (λ k. told shown Pop (below k xs) m t) (sym e) h)))

  pub chain_cuts : (xs : List Scope) (n : ℕ) (s m t : H) → Chain told shown (cuts xs n) s m → told shown Pop xs m t → Chain told shown (cuts xs (n + 1)) s t
  chain_cuts xs n s m t r h = subst (λ ts. Chain told shown ts s t) (replicate_more n _) (chain_push (cuts xs n) _ s m t r h)

  pub chain_pushes : (xs ys : List Scope) (y : Scope) (s m t : H) → Chain told shown (pushes xs ys) s m → told shown (Push y) ((xs ++ ys) ++ y ∷ []) m t → Chain told shown (pushes xs (ys ++ y ∷ [])) s t
  chain_pushes xs ys y s m t r h = subst (λ ts. Chain told shown ts s t) (sym (pushes_push xs ys y)) (chain_push (pushes xs ys) _ s m t r h)

  module _ (scopes : H → List Scope) (can : H → Type 0) (moves : (shown : S) (op : BasicScopeStackOp) (stack : List Scope) (s t : H) → told shown op stack s t → can s → (scopes t ≡ moved op (scopes s)) × can t) where
    pub chain_moves : (ts : List Telling) (s t : H) → Chain told shown ts s t → can s → (scopes t ≡ moved_all ts (scopes s)) × can t
    chain_moves [] s t e room = (ap scopes (sym e), subst can e room)
    chain_moves (x ∷ ts) s t r room =
        let one = moves shown x.act x.stack s r.0 r.1 room in
        let rest = chain_moves ts r.0 t r.2 one.1 in
        (rest.0 ∙ ap (moved_all ts) one.0, rest.1)
