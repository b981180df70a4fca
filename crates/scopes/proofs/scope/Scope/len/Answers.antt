use Rattle.std.proofs.Common.{arith}
use Rattle.scopes.specs.Scopes.{atoms_in, fields_in}
use Rattle.scopes.proofs.Words.{len_some, len_none}
use Rattle.scopes.proofs.scope.Scope.len.Goals as goal
use Rattle.scopes.proofs.scope.Scope.len.Goals.{then-self-eq0, else-self-eq0}

pub returns : goal.returns
unfolding atoms_in fields_in
returns c =
    record {
      eight = omega arith;
      count = elim c.if-self-eq0.branch [
        | then-self-eq0 w ↦ omega (arith, w.zeros-is, len_none c.args.self.a c.args.self.b (omega arith) (omega arith) c.args.self.used_first w.if-self-eq0.true)
        | else-self-eq0 w ↦ omega (arith, w.zeros-is, len_some c.args.self.a c.args.self.b (omega arith) (omega arith) c.args.self.used_first w.if-self-eq0.false)
      ];
    }
