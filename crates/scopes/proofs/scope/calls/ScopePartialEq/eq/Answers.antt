use Rattle.std.proofs.Common.{rules}
use Rattle.std.specs.Cmp.Lexicographic.{bytes_decides}
use Rattle.std.proofs.lemmas.Bool.Decides.{same_from_decides}
use Rattle.scopes.specs.Scopes.{atoms_in, fields_in}
use Rattle.scopes.proofs.scope.calls.ScopePartialEq.eq.Goals as goal

pub returns-then-self-other-clause-equals : goal.returns-then-self-other-clause-equals
unfolding atoms_in fields_in
returns-then-self-other-clause-equals c = search rules

pub returns-else-self-other-clause-equals : goal.returns-else-self-other-clause-equals
unfolding atoms_in fields_in
returns-else-self-other-clause-equals c = search rules

pub returns-then-self-other-clause-value : goal.returns-then-self-other-clause-value
returns-then-self-other-clause-value c = same_from_decides _ _ (returns-then-self-other-clause-equals c) (bytes_decides (atoms_in c.args.self.now) (atoms_in c.args.other.now))

pub returns-else-self-other-clause-value : goal.returns-else-self-other-clause-value
returns-else-self-other-clause-value c = same_from_decides _ _ (returns-else-self-other-clause-equals c) (bytes_decides (atoms_in c.args.self.now) (atoms_in c.args.other.now))
