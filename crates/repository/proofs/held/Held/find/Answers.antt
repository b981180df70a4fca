use Rattle.std.proofs.Common.{sym, ap, ◌∙◌, arith}
use Rattle.std.proofs.lemmas.Slice.Eq.{slice_eq-Decides}
use Rattle.std.proofs.lemmas.List.{at_drop_all}
use Rattle.std.proofs.lemmas.Bool.Decides.{Decides-eqb}
use Rattle.repository.specs.Atoms.{has, place}
use Rattle.repository.specs.Tables.{cuts}
use Rattle.repository.proofs.Ends.{turn, end_below, here_has, here_place, past_has, past_place}
use Rattle.repository.proofs.held.Held.find.Goals as goal

pub loop-number-init : goal.loop-number-init
loop-number-init c =
    (c.self.invariant.2, ap (λ l. has l c.args.atom.now) c.self.view_is, omega (arith, ap (λ l. place l c.args.atom.now) c.self.view_is))

pub slice_bounds-eq-count : goal.slice_bounds-eq-count
slice_bounds-eq-count c =
    (turn c.loop-number.start c.self.inside.ends.now c.self.inside.text.now c.loop-number.number c.loop-number-test.true c.loop-number.invariant.0).0

pub slice_bounds-eq-start : goal.slice_bounds-eq-start
slice_bounds-eq-start c =
    (turn c.loop-number.start c.self.inside.ends.now c.self.inside.text.now c.loop-number.number c.loop-number-test.true c.loop-number.invariant.0).0

pub slice_bounds-eq-end : goal.slice_bounds-eq-end
slice_bounds-eq-end c =
    end_below c.loop-number.start c.self.inside.ends.now c.self.inside.text.now c.loop-number.number c.loop-number-test.true c.loop-number.invariant.0

pub returns-then-eq : goal.returns-then-eq
returns-then-eq c =
    let d = slice_eq-Decides Decides-eqb _ _ _ c.eq.ensures in (
      omega (arith, c.loop-number.invariant.2, here_place c.loop-number.start c.self.inside.ends.now c.self.inside.text.now c.loop-number.number c.loop-number-test.true c.loop-number.invariant.0 c.args.atom.now c.eq.result d c.if-eq.true),
      sym c.loop-number.invariant.1 ∙ here_has c.loop-number.start c.self.inside.ends.now c.self.inside.text.now c.loop-number.number c.loop-number-test.true c.loop-number.invariant.0 c.args.atom.now c.eq.result d c.if-eq.true,
    )

pub loop-number-preserved : goal.loop-number-preserved
loop-number-preserved c =
    let d = slice_eq-Decides Decides-eqb _ _ _ c.eq.ensures in (
      (turn c.loop-number.start c.self.inside.ends.now c.self.inside.text.now c.loop-number.number c.loop-number-test.true c.loop-number.invariant.0).1,
      sym (past_has c.loop-number.start c.self.inside.ends.now c.self.inside.text.now c.loop-number.number c.loop-number-test.true c.loop-number.invariant.0 c.args.atom.now c.eq.result d c.if-eq.false) ∙ c.loop-number.invariant.1,
      omega (arith, c.loop-number.invariant.2, past_place c.loop-number.start c.self.inside.ends.now c.self.inside.text.now c.loop-number.number c.loop-number-test.true c.loop-number.invariant.0 c.args.atom.now c.eq.result d c.if-eq.false),
    )

pub returns : goal.returns
returns c =
    sym c.loop-number.invariant.1 ∙ at_drop_all (λ l. has (cuts c.loop-number.start l c.self.inside.text.now) c.args.atom.now) c.self.inside.ends.now c.loop-number.number (omega arith)
