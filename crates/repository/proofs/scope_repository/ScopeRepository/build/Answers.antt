use Rattle.repository.proofs.Joins.{cut_law}
use Rattle.repository.proofs.scope_repository.ScopeRepository.build.Goals as goal

pub returns-clause-cut : goal.returns-clause-cut
returns-clause-cut c = cut_law c.args.name.now
