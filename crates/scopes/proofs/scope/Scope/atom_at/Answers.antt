use Rattle.std.proofs.Common.{rules}
use Rattle.scopes.specs.Scopes.{fields_in}
use Rattle.scopes.proofs.scope.Scope.atom_at.Goals as goal

pub returns-then-index-lt4 : goal.returns-then-index-lt4
unfolding fields_in
returns-then-index-lt4 c = search rules
