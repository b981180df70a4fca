use Rattle.std.proofs.Common.{refl, arith}
use Rattle.std.proofs.lemmas.Grind.{common_steps}
use Rattle.std.proofs.lemmas.Bool.Decides.{nat_tests}
use Rattle.stacks.specs.Operations.{last}
use Rattle.stacks.proofs.Cuts.{cut_push}
use Rattle.stacks.proofs.Memory.{counted}
use Rattle.stacks.proofs.scope_stack.ScopeStack.clear.Goals as goal

pub returns-then-is_full : goal.returns-then-is_full
returns-then-is_full c =
    let counts = counted _ _ c.self.view_is c.self.invariant in
    record { first = grind (arith, nat_tests); same = refl }

pub returns : goal.returns
returns c =
    let s = c.self.inside in
    let counts = counted s _ c.self.view_is c.self.invariant in
    let apart = cut_push s.sizes.items s.aside.items (last c.of-count.result s.scopes.items) c.self.invariant.adds in
    rw (← c.self.view_is) record { unrefused = grind (arith, nat_tests); moved = grind (arith, common_steps) }
