use Rattle.std.proofs.Common.{[], ◌-◌, length, take, drop, arith}
use Rattle.std.proofs.lemmas.Grind.{common_steps}
use Rattle.std.proofs.lemmas.Bool.Decides.{nat_tests}
use Rattle.stacks.specs.Stacks.{cut}
use Rattle.stacks.proofs.Cuts.{cut_pop}
use Rattle.stacks.proofs.Memory.{counted}
use Rattle.stacks.proofs.Tops.{below_push, newest_push}
use Rattle.stacks.proofs.scope_stack.ScopeStack.restore.Goals as goal

pub returns : goal.returns
returns c =
    let s = c.self.inside in
    let counts = counted s _ c.self.view_is c.self.invariant in
    let sizes = c.pop.new.self.items in
    let left = length s.aside.items - c.in-Some.size in
    let apart = cut_pop s.sizes.items sizes c.in-Some.size s.aside.items c.in-Some.ensures.items c.self.invariant.adds in
    let older = cut sizes (take left s.aside.items) in
    let top = drop left s.aside.items in
    let below = below_push older top in
    let newest = newest_push older top [] in
    rw (← c.self.view_is) record { unrefused = grind (arith, nat_tests); moved = grind (arith, common_steps) }
