use Rattle.std.proofs.Common.{◌≡◌, ◌+◌, ◌-◌, ◌^◌, min, length, take, sym, ap, ◌∙◌, arith, rules, tests}
use Rattle.std.proofs.lemmas.List.{take_all, length_push}
use Rattle.std.proofs.lemmas.List.FromFn.{length-enumerate_from}
use Rattle.std.proofs.lemmas.Iterator.Consumers.{YieldsList-at, YieldsList-from_enumerate, YieldsList-turn, YieldsList-end}
use Rattle.repository.specs.Atoms.{total, learned}
use Rattle.repository.specs.Names.{pieces}
use Rattle.repository.proofs.Cutting.{YieldsList-from_pieces, ComeTo, numbered}
use Rattle.repository.proofs.Places.{none_new, one_new, total_push}
use Rattle.repository.proofs.held.Held.planned.Goals as goal
use Rattle.repository.proofs.held.Held.planned.Goals.{In-Some}

turn : (c : In-Some) → (c.in-Some.index ≡ length c.loop-index.yielded) × ComeTo (pieces c.args.text.now) (length c.loop-index.yielded) c.in-Some.piece.now
turn c =
    numbered (pieces c.args.text.now) (length c.loop-index.yielded) c.in-Some.index c.in-Some.piece.now (YieldsList-turn (YieldsList-at c.into_iter-index-iterator.ensures.into_iter_gives (YieldsList-from_enumerate (YieldsList-at c.enumerate-index-items.ensures.source (YieldsList-from_pieces _ c.args.text.now c.split.ensures.rest c.split.ensures.done c.split.ensures.closure (λ x b q k. search (rules, tests)))) c.enumerate-index-items.ensures.count)) c.loop-index.yielded c.loop-index.index-iterator c.loop-index.yielded_by c.next.result c.next.new.self (c.in-Some.index, c.in-Some.piece) c.in-Some.is c.next.ensures.steps)

pub loop-index-preserved-then-is_new : goal.loop-index-preserved-then-is_new
loop-index-preserved-then-is_new c =
    let n = length c.loop-index.yielded in
    let ps = pieces c.args.text.now in
    let here = turn (goal.at.loop-index-preserved-then-is_new c).In-Some in
    let more = length_push c.loop-index.yielded (c.in-Some.index, c.in-Some.piece) in
    let e = one_new c.args.self.now ps n _ c.in-Some.piece.now here.1.0 here.1.1 more c.in-Some.index here.0 (sym c.is_new.ensures ∙ c.if-is_new.true) in
    record {
      next = search rules;
      finite = tt;
      few = omega (arith, more);
      atoms = sym (ap length e ∙ length_push _ c.in-Some.piece.now ∙ ap (λ k. k + 1) (sym c.loop-index.invariant.atoms));
      bytes = omega (arith, ap total e, total_push (learned c.args.self.now (take n ps)) c.in-Some.piece.now);
    }

pub loop-index-preserved : goal.loop-index-preserved
loop-index-preserved c =
    let n = length c.loop-index.yielded in
    let ps = pieces c.args.text.now in
    let here = turn (goal.at.loop-index-preserved c).In-Some in
    let more = length_push c.loop-index.yielded (c.in-Some.index, c.in-Some.piece) in
    let e = none_new c.args.self.now ps n _ c.in-Some.piece.now here.1.0 here.1.1 more c.in-Some.index here.0 (sym c.is_new.ensures ∙ c.if-is_new.false) in
    record {
      next = search rules;
      finite = tt;
      few = omega (arith, more);
      atoms = omega (arith, ap length e);
      bytes = omega (arith, ap total e);
    }

pub returns : goal.returns
returns c =
    let ps = pieces c.args.text.now in
    let end = YieldsList-end (YieldsList-at c.into_iter-index-iterator.ensures.into_iter_gives (YieldsList-from_enumerate (YieldsList-at c.enumerate-index-items.ensures.source (YieldsList-from_pieces _ c.args.text.now c.split.ensures.rest c.split.ensures.done c.split.ensures.closure (λ x b q k. search (rules, tests)))) c.enumerate-index-items.ensures.count)) c.loop-index.yielded c.loop-index.index-iterator c.loop-index.yielded_by c.next.result c.next.new.self c.in-None.is c.next.ensures.steps in
    let all : take (length c.loop-index.yielded) ps ≡ ps = take_all (length c.loop-index.yielded) ps (omega (arith, end.1, length-enumerate_from 0 ps)) in
    record {
      atoms = c.loop-index.invariant.atoms ∙ ap (λ l. length (learned c.args.self.now l)) all;
      bytes = c.loop-index.invariant.bytes ∙ ap (λ l. min (total (learned c.args.self.now l)) (2 ^ 64 - 1)) all;
    }
