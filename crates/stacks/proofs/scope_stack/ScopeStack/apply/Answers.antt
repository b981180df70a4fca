use Rattle.std.proofs.Common.{◌≡◌, Ok, Err, Result, sym, ap, ◌∙◌}
use Rattle.stacks.specs.declared.faults.OpFault.{OpFault}
use Rattle.stacks.specs.declared.ops.ScopeStackOp.{ScopeStackOp}
use Rattle.stacks.specs.Operations.{Applied}
use Rattle.stacks.specs.Stacks.{Stack, Within}
use Rattle.stacks.specs.Tellings.{told_of}
use Rattle.stacks.proofs.Chains.{moved_all, chain_moves}
use Rattle.stacks.proofs.Laws.{lawful, led, told}
use Rattle.stacks.proofs.scope_stack.ScopeStack.apply.Goals as goal

-- what was told leads from the scopes before to those after
reached : (op : ScopeStackOp) (s t : Stack) (r : Result Unit OpFault) → Within s → Applied op s r t → moved_all (told_of op s r) s.scopes ≡ t.scopes
reached op s t (Ok _) w a = led op s w a.unrefused ∙ ap (λ (u : Stack). u.scopes) (sym a.moved)
reached op s t (Err f) w a = ap (λ (u : Stack). u.scopes) (sym a.same)

pub returns : goal.returns
returns g c =
    let m = g.H.Hook in
    let s = c.args.self.now in
    let t = c.perform.new.self in
    let made = c.perform.ensures in
    let ts = told_of c.args.op s c.perform.result in
    record {
      stack = made.stack;
      done = lawful c.args.op s;
      told = made.told;
      tells = told c.args.op s c.as_slice-bounds.ensures.within;
      follows =
          λ room same.
          let moved = chain_moves m.told c.args.shown.now m.scopes m.can m.moves ts c.args.hook.now c.perform.new.hook made.told room in
          (moved.0 ∙ ap (moved_all ts) same ∙ reached c.args.op s t c.perform.result c.as_slice-bounds.ensures.within made.stack, moved.1);
    }
