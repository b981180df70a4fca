use Rattle.std.proofs.Common.{◌-◌, get_or, drop, arith}
use Rattle.std.proofs.lemmas.List.{length-take-le, length-drop}
use Rattle.repository.proofs.Ends.{spans, spells}
use Rattle.repository.proofs.held.Held.atom.Goals as goal

pub slice_bounds-result-count : goal.slice_bounds-result-count
slice_bounds-result-count c =
    (spans c.self.inside.text.now c.self.inside.ends.now c.self.invariant.2 c.args.self.now c.self.view_is c.args.number c.requires c.start_of-start.result c.start_of-start.ensures).0

pub slice_bounds-result-start : goal.slice_bounds-result-start
slice_bounds-result-start c =
    (spans c.self.inside.text.now c.self.inside.ends.now c.self.invariant.2 c.args.self.now c.self.view_is c.args.number c.requires c.start_of-start.result c.start_of-start.ensures).0

pub slice_bounds-result-end : goal.slice_bounds-result-end
slice_bounds-result-end c =
    (spans c.self.inside.text.now c.self.inside.ends.now c.self.invariant.2 c.args.self.now c.self.view_is c.args.number c.requires c.start_of-start.result c.start_of-start.ensures).1

pub returns : goal.returns
returns c =
    let r = spans c.self.inside.text.now c.self.inside.ends.now c.self.invariant.2 c.args.self.now c.self.view_is c.args.number c.requires c.start_of-start.result c.start_of-start.ensures in
    record {
      text = spells c.self.inside.text.now c.self.inside.ends.now c.self.invariant.2 c.args.self.now c.self.view_is c.args.number c.requires c.start_of-start.result c.start_of-start.ensures;
      short = omega (arith, r.0, r.1, length-take-le (get_or c.self.inside.ends.now c.args.number 0 - c.start_of-start.result) (drop c.start_of-start.result c.self.inside.text.now) (omega (arith, r.0, r.1, length-drop c.start_of-start.result c.self.inside.text.now)));
    }
