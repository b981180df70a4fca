use Rattle.std.proofs.Common.{sym, arith}
use Rattle.std.proofs.lemmas.List.{take_all}
use Rattle.rankings.proofs.lowest.Goals as goal

pub returns-else-stack-gt64-clause-scopes : goal.returns-else-stack-gt64-clause-scopes
returns-else-stack-gt64-clause-scopes c = sym (take_all 64 c.args.stack.now (omega arith))
