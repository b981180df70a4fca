use Rattle.std.proofs.Common.{◌+◌, arith}
use Rattle.scopes.specs.Scopes.{atoms_in, fields_in}
use Rattle.scopes.proofs.Words.{more_a, more_b}
use Rattle.scopes.proofs.scope.Scope.with_atom.Goals as goal

pub invariant_of-result : goal.invariant_of-result
unfolding atoms_in fields_in
invariant_of-result c =
    record { used_first = (more_a c.args.self.a c.args.self.b (c.args.number + 1) c.len-n.result (omega arith) (omega arith) c.args.self.used_first (omega arith) (omega arith) c.len-n.ensures.count c.if-n-lt4.true).0 }

pub invariant_of-result-then-n-lt8 : goal.invariant_of-result-then-n-lt8
unfolding atoms_in fields_in
invariant_of-result-then-n-lt8 c =
    record { used_first = (more_b c.args.self.a c.args.self.b (c.args.number + 1) c.len-n.result (omega arith) (omega arith) c.args.self.used_first (omega arith) (omega arith) c.len-n.ensures.count c.if-n-lt4.false c.if-n-lt8.true).0 }

pub returns-then-n-lt4 : goal.returns-then-n-lt4
unfolding atoms_in fields_in
returns-then-n-lt4 c =
    (more_a c.args.self.a c.args.self.b (c.args.number + 1) c.len-n.result (omega arith) (omega arith) c.args.self.used_first (omega arith) (omega arith) c.len-n.ensures.count c.if-n-lt4.true).1

pub returns-then-n-lt8 : goal.returns-then-n-lt8
unfolding atoms_in fields_in
returns-then-n-lt8 c =
    (more_b c.args.self.a c.args.self.b (c.args.number + 1) c.len-n.result (omega arith) (omega arith) c.args.self.used_first (omega arith) (omega arith) c.len-n.ensures.count c.if-n-lt4.false c.if-n-lt8.true).1
