use Rattle.std.proofs.Common.{◌≡◌, [], ◌∷◌, refl, ◌∙◌, subst, arith, rules}
use Rattle.lines.specs.Lines.{stretches}
use Rattle.repository.specs.Held.{atoms_of}
use Rattle.pane.proofs.Listed.{SoFar, none, more, all, trimmed_short}
use Rattle.pane.proofs.names.Lister.list.Goals as goal

pub loop-line-init : goal.loop-line-init
loop-line-init g c =
    let held = atoms_of c.args.self.now.repository in
    let lines : stretches 10 c.args.text.now ≡ c.into_iter-line-iterator.result = search rules in
    (subst (λ left. SoFar c.args.text.now left held c.new-tally.result held) lines (none c.args.text.now held c.new-tally.result c.new-tally.ensures.read c.new-tally.ensures.scopes), refl)

pub name-requires : goal.name-requires
name-requires g c =
    let lines : c.loop-line.line-iterator ≡ c.in-Some.line.now ∷ c.next.new.self = search rules in
    let so_far = subst (λ left. SoFar c.args.text.now left (atoms_of c.args.self.now.repository) c.loop-line.tally (atoms_of c.loop-line.self.repository)) lines c.loop-line.invariant.0 in
    omega (arith, trimmed_short so_far c.trimmed.ensures, c.requires, c.loop-line.invariant.1)

pub loop-line-preserved : goal.loop-line-preserved
loop-line-preserved g c =
    let lines : c.loop-line.line-iterator ≡ c.in-Some.line.now ∷ c.next.new.self = search rules in
    let so_far = subst (λ left. SoFar c.args.text.now left (atoms_of c.args.self.now.repository) c.loop-line.tally (atoms_of c.loop-line.self.repository)) lines c.loop-line.invariant.0 in
    let told = c.in_ok-scope.ensures in
    (more so_far c.trimmed.ensures told.told.0 told.told.1 c.counted-tally.ensures.read c.counted-tally.ensures.scopes, told.buffer ∙ c.loop-line.invariant.1)

pub returns : goal.returns
returns g c =
    let lines : c.loop-line.line-iterator ≡ [] = search rules in
    all (subst (λ left. SoFar c.args.text.now left (atoms_of c.args.self.now.repository) c.loop-line.tally (atoms_of c.loop-line.self.repository)) lines c.loop-line.invariant.0)
