-- The atoms that a repository holds, by number.
use Rattle.repository.specs.declared.scope_repository.ScopeRepository.{ScopeRepository}
use Rattle.repository.specs.Names.{Atoms}
use Rattle.repository.specs.Tables.{held_by}

abbrev pub atoms_of : ScopeRepository → Atoms
atoms_of r = held_by r.counts r.tables
