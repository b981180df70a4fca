-- What the memory of a stack says of the stack that it stands for.
use Rattle.std.proofs.Common.{◌≡◌, ◌+◌, ◌≤◌, map, length, sum, sym, refl, arith}
use Rattle.stacks.specs.contracts.scope_stack.ScopeStack.{the_view}
use Rattle.stacks.specs.declared.scope_stack.ScopeStack.TheInside.{Inside}
use Rattle.stacks.specs.Stacks.{Stack, total, Kept, Within}
use Rattle.stacks.proofs.Cuts.{length_cut, aside_cut, sizes_cut}

pub record Counted (m : Inside) (s : Stack) : Type 0 where
  pub height : length s.scopes ≡ length m.scopes.items
  pub count : length s.asides ≡ length m.sizes.items
  pub all : total s ≡ length m.scopes.items + length m.aside.items

pub counted : (m : Inside) (s : Stack) → the_view m ≡ s → Kept m.scopes.items m.aside.items m.sizes.items → Counted m s
counted m s is kept =
    let few : sum m.sizes.items ≤ length m.aside.items = omega (arith, kept.adds) in
    rw (← is) record {
      height = refl;
      count = length_cut m.sizes.items m.aside.items;
      all = omega (arith, aside_cut m.sizes.items m.aside.items few, kept.adds);
    }

pub within : (m : Inside) (s : Stack) → the_view m ≡ s → Kept m.scopes.items m.aside.items m.sizes.items → Within s
within m s is kept =
    let c = counted m s is kept in
    record { scopes = omega (arith, c.all, kept.fits); asides = omega (arith, c.count, kept.few) }

pub sizes : (m : Inside) (s : Stack) → the_view m ≡ s → Kept m.scopes.items m.aside.items m.sizes.items → m.sizes.items ≡ map length s.asides
sizes m s is kept = rw (← is) (sym (sizes_cut m.sizes.items m.aside.items (omega (arith, kept.adds))))
