-- Every operation has one outcome, and its tellings lead a list of scopes there too.
use Rattle.std.proofs.Common.{◌≡◌, ℕ, zero, suc, ◌+◌, ◌-◌, ◌≤◌, Bool, true, false, ltb, List, [], ◌∷◌, ◌++◌, map, length, get_or, replicate, None, sym, refl, ap, ◌∙◌, subst, arith}
use Rattle.std.specs.List.{AllByRecursion}
use Rattle.std.proofs.lemmas.List.{length_push, length-drop, append-nil, take_all, take_more}
use Rattle.std.proofs.lemmas.Bool.{cond_below, ltb-false, eqb-false}
use Rattle.std.proofs.lemmas.Bool.Decides.{nat_tests}
use Rattle.std.proofs.lemmas.Grind.{common_steps}
use Rattle.scopes.specs.declared.scope.Scope.{Scope}
use Rattle.stacks.specs.declared.ops.BasicScopeStackOp.TheVariants.{Push as PushTold, Pop as PopTold}
use Rattle.stacks.specs.declared.ops.ScopeStackOp.{ScopeStackOp}
use Rattle.stacks.specs.declared.ops.ScopeStackOp.TheVariants.{Push, Pop, Clear, Restore, Noop}
use Rattle.stacks.specs.Operations.{taken, below, last, newest, after, DoneLaw}
use Rattle.stacks.specs.Refusals.{refused_if, refusal}
use Rattle.stacks.specs.Stacks.{Stack, aside_count, Within}
use Rattle.stacks.specs.Tellings.{Telling, moved, pushes, pops, cuts, tellings, Steps, Tells, TellLaw}
use Rattle.stacks.proofs.Chains.{moved_all}
use Rattle.stacks.proofs.Tops.{below_none, below_more, below_last, below_is, last_is, below_push, newest_push, taken_few}

-- without a refusal its condition does not hold
unrefused : (test : Bool) (n : ℕ) → refused_if test n ≡ None → test ≡ false
unrefused true n e = cc
unrefused false n e = refl

-- where something is set aside, the newest is the last
newest_apart : (s : Stack) → (length s.asides ≡ 0 → ⊥) → s.asides ≡ below 1 s.asides ++ newest s ∷ []
newest_apart s some =
    sym (take_all (length s.asides - 1 + 1) s.asides (omega arith)) ∙ take_more s.asides (length s.asides - 1) [] (omega arith)

pub lawful : (op : ScopeStackOp) (s : Stack) → DoneLaw op s
lawful (Push x) s = record {
  leads = λ _. record { scopes = refl; asides = refl };
  only = λ t d. λ i. record { scopes = d.scopes i; asides = d.asides i };
}
lawful (Pop n) s = record {
  leads = λ e. record {
    gone = last n s.scopes;
    many = omega (arith, length-drop (length s.scopes - n) s.scopes, ltb-false (length s.scopes) n (unrefused (ltb (length s.scopes) n) 16 e));
    scopes = below_last n s.scopes;
    asides = refl;
  };
  only = λ t d. λ i. record { scopes = below_is n s.scopes t.scopes d.gone d.many d.scopes i; asides = d.asides i };
}
lawful (Clear a) s = record {
  leads = λ _. record {
    top = last (taken a (length s.scopes)) s.scopes;
    many = omega (arith, length-drop (length s.scopes - taken a (length s.scopes)) s.scopes, taken_few a (length s.scopes));
    scopes = below_last (taken a (length s.scopes)) s.scopes;
    asides = refl;
  };
  only = λ t d. λ i. record {
    scopes = below_is (taken a (length s.scopes)) s.scopes t.scopes d.top d.many d.scopes i;
    asides = (d.asides ∙ ap (λ top. s.asides ++ top ∷ []) (last_is (taken a (length s.scopes)) s.scopes t.scopes d.top d.many d.scopes)) i;
  };
}
lawful Restore s = record {
  leads = λ e. record { top = newest s; asides = newest_apart s (eqb-false (length s.asides) 0 (unrefused _ 18 e)); scopes = refl };
  only = λ t d. λ i. record {
    scopes = (d.scopes ∙ ap (λ top. s.scopes ++ top) (sym (newest_push t.asides d.top []) ∙ ap (λ xs. get_or xs (length xs - 1) []) (sym d.asides))) i;
    asides = (sym (below_push t.asides d.top) ∙ ap (below 1) (sym d.asides)) i;
  };
}
lawful Noop s = record { leads = λ _. refl; only = λ t d. d }

moved_pops : (xs : List Scope) (n : ℕ) → moved_all (pops xs n) xs ≡ below n xs
moved_pops xs zero = sym (below_none xs)
moved_pops xs (suc n) = grind (arith, moved_pops (below 1 xs) n, below_more 1 n xs)

moved_cuts : (left xs : List Scope) (n : ℕ) → moved_all (cuts left n) xs ≡ below n xs
moved_cuts left xs zero = sym (below_none xs)
moved_cuts left xs (suc n) = grind (arith, moved_cuts left (below 1 xs) n, below_more 1 n xs)

moved_pushes : (xs ys : List Scope) → length xs + length ys ≤ 64 → moved_all (pushes xs ys) xs ≡ xs ++ ys
moved_pushes xs [] few = sym (append-nil xs)
moved_pushes xs (y ∷ ys) few =
    let short = cond_below (length xs) 64 (xs ++ y ∷ []) xs (omega arith) in
    grind (arith, common_steps, moved_pushes (xs ++ y ∷ []) ys (omega (arith, length_push xs y)))

aside_push : (xs : List (List Scope)) (x : List Scope) → aside_count (xs ++ x ∷ []) ≡ aside_count xs + length x
aside_push [] x = omega arith
aside_push (y ∷ xs) x = omega (arith, aside_push xs x)

push_few : (x : Scope) (s : Stack) → refusal (Push x) s ≡ None → length s.scopes + length (x ∷ []) ≤ 64
push_few x s e = grind (arith, nat_tests)

restore_few : (s : Stack) → Within s → refusal Restore s ≡ None → length s.scopes + length (newest s) ≤ 64
restore_few s within e =
    let apart = newest_apart s (eqb-false (length s.asides) 0 (unrefused _ 18 e)) in
    omega (arith, within.scopes, ap aside_count apart, aside_push (below 1 s.asides) (newest s))

-- the tellings of an operation that is not refused, on the scopes of the stack
pub led : (op : ScopeStackOp) (s : Stack) → Within s → refusal op s ≡ None → moved_all (tellings op s) s.scopes ≡ (after op s).scopes
led (Push x) s within e = moved_pushes s.scopes (x ∷ []) (push_few x s e)
led (Pop n) s within e = moved_pops s.scopes n
led (Clear a) s within e = moved_cuts _ s.scopes (taken a (length s.scopes))
led Restore s within e = moved_pushes s.scopes (newest s) (restore_few s within e)
led Noop s within e = refl

steps_pops : (xs : List Scope) (n : ℕ) → Steps xs (pops xs n)
steps_pops xs zero = tt
steps_pops xs (suc n) = (refl, steps_pops (below 1 xs) n)

steps_pushes : (xs ys : List Scope) → length xs + length ys ≤ 64 → Steps xs (pushes xs ys)
steps_pushes xs [] few = tt
steps_pushes xs (y ∷ ys) few = (cond_below (length xs) 64 (xs ++ y ∷ []) xs (omega arith), steps_pushes (xs ++ y ∷ []) ys (omega (arith, length_push xs y)))

acts_pops : (xs : List Scope) (n : ℕ) → map (λ t. t.act) (pops xs n) ≡ replicate n PopTold
acts_pops xs zero = refl
acts_pops xs (suc n) = ap (λ more. PopTold ∷ more) (acts_pops (below 1 xs) n)

acts_cuts : (xs : List Scope) (n : ℕ) → map (λ t. t.act) (cuts xs n) ≡ replicate n PopTold
acts_cuts xs zero = refl
acts_cuts xs (suc n) = ap (λ more. PopTold ∷ more) (acts_cuts xs n)

acts_pushes : (xs ys : List Scope) → map (λ t. t.act) (pushes xs ys) ≡ map PushTold ys
acts_pushes xs [] = refl
acts_pushes xs (y ∷ ys) = ap (λ more. PushTold y ∷ more) (acts_pushes (xs ++ y ∷ []) ys)

each_cut : (xs : List Scope) (n : ℕ) → AllByRecursion (λ t. t.stack ≡ xs) (cuts xs n)
each_cut xs zero = tt
each_cut xs (suc n) = (refl, each_cut xs n)

-- a telling is its act and its stack
same_telling : (t u : Telling) → t.act ≡ u.act → t.stack ≡ u.stack → t ≡ u
same_telling t u a b = λ i. record { act = a i; stack = b i }

-- step by step, the same acts from the same scopes are the same tellings
same_steps : (xs : List Scope) (ts us : List Telling) → map (λ t. t.act) ts ≡ map (λ t. t.act) us → Steps xs ts → Steps xs us → ts ≡ us
same_steps xs [] [] e p q = refl
same_steps xs [] (u ∷ us) e p q = cc
same_steps xs (t ∷ ts) [] e p q = cc
same_steps xs (t ∷ ts) (u ∷ us) e p q =
    let a : t.act ≡ u.act = cc in
    let b : map (λ t. t.act) ts ≡ map (λ t. t.act) us = cc in
    let s : t.stack ≡ u.stack = p.0 ∙ ap (λ x. moved x xs) a ∙ sym q.0 in
    λ i. same_telling t u a s i ∷ same_steps t.stack ts us b p.1 (subst (λ ys. Steps ys us) (sym s) q.1) i

-- and so are those of the same acts on one stack
same_cuts : (xs : List Scope) (ts us : List Telling) → map (λ t. t.act) ts ≡ map (λ t. t.act) us → AllByRecursion (λ t. t.stack ≡ xs) ts → AllByRecursion (λ t. t.stack ≡ xs) us → ts ≡ us
same_cuts xs [] [] e p q = refl
same_cuts xs [] (u ∷ us) e p q = cc
same_cuts xs (t ∷ ts) [] e p q = cc
same_cuts xs (t ∷ ts) (u ∷ us) e p q =
    let a : t.act ≡ u.act = cc in
    let b : map (λ t. t.act) ts ≡ map (λ t. t.act) us = cc in
    λ i. same_telling t u a (p.0 ∙ sym q.0) i ∷ same_cuts xs ts us b p.1 q.1 i

are : (op : ScopeStackOp) (s : Stack) → Within s → refusal op s ≡ None → Tells op s (tellings op s)
are (Push x) s within e = record { told = refl; standing = steps_pushes s.scopes (x ∷ []) (push_few x s e) }
are (Pop n) s within e = record { told = acts_pops s.scopes n; standing = steps_pops s.scopes n }
are (Clear a) s within e =
    let n = taken a (length s.scopes) in
    record { told = acts_cuts (below n s.scopes) n; standing = each_cut (below n s.scopes) n }
are Restore s within e = record { told = acts_pushes s.scopes (newest s); standing = steps_pushes s.scopes (newest s) (restore_few s within e) }
are Noop s within e = record { told = refl; standing = tt }

only : (op : ScopeStackOp) (s : Stack) (ts us : List Telling) → Tells op s ts → Tells op s us → ts ≡ us
only (Push x) s ts us t u = same_steps s.scopes ts us (t.told ∙ sym u.told) t.standing u.standing
only (Pop n) s ts us t u = same_steps s.scopes ts us (t.told ∙ sym u.told) t.standing u.standing
only (Clear a) s ts us t u = same_cuts (after (Clear a) s).scopes ts us (t.told ∙ sym u.told) t.standing u.standing
only Restore s ts us t u = same_steps s.scopes ts us (t.told ∙ sym u.told) t.standing u.standing
only Noop s ts us t u = same_steps s.scopes ts us (t.told ∙ sym u.told) t.standing u.standing

pub told : (op : ScopeStackOp) (s : Stack) → Within s → TellLaw op s
told op s within = record { are = are op s within; only = λ e ts t. only op s ts (tellings op s) t (are op s within e) }
