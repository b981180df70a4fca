use Rattle.std.proofs.Common.{◌≡◌, [], length, Ok, rules}
use Rattle.repository.specs.Builds.{Builds}
use Rattle.repository.specs.Held.{atoms_of}
use Rattle.scripts.specs.Words.{Word}
use Rattle.scripts.specs.Yields.{left_of, size_of}
use Rattle.named.proofs.Turns.{one_more}
use Rattle.named.proofs.read_scopes.Goals as goal

pub loop-at-preserved : goal.loop-at-preserved
loop-at-preserved g c =
    let step = c.in-Some.ensures.steps in
    let name = c.in-Some.name.now in
    let rest = left_of c.loop-at.at-iterator in
    let behind = left_of c.next.new.self in
    let word : Word rest name behind = search rules in
    let some : name ≡ [] → ⊥ = search rules in
    let same : size_of c.next.new.self ≡ length c.args.names.now = search rules in
    let built : Builds (atoms_of c.loop-at.repository) name (Ok c.in_ok-scope.scope) (atoms_of c.build.new.self) = search rules in
    record {
      can = tt;
      finite = tt;
      built = rw c.push.ensures.items (one_more c.in_ok-scope.scope name rest behind (atoms_of c.loop-at.repository) (atoms_of c.build.new.self) word some built (atoms_of c.args.repository.now) c.args.names.now c.loop-at.scopes.items c.loop-at.invariant.built);
      within = search rules;
      size = same;
    }
