use Rattle.std.proofs.Common.{◌+◌, ◌<◌, [], ◌∷◌, ◌++◌, length, take, drop, sym, refl, ap, ◌∙◌, arith, rules, tests}
use Rattle.std.proofs.lemmas.List.{take_all, at_drop_all, length_push}
use Rattle.std.proofs.lemmas.Iterator.Consumers.{YieldsList-at, YieldsList-turn, YieldsList-end}
use Rattle.scopes.specs.Scopes.{atoms_in}
use Rattle.repository.specs.Atoms.{learned, fields_for}
use Rattle.repository.specs.Names.{pieces}
use Rattle.repository.specs.Tables.{held_by}
use Rattle.repository.proofs.Cutting.{YieldsList-from_pieces, ComeTo, come_to}
use Rattle.repository.proofs.Ends.{extends_more}
use Rattle.repository.proofs.Places.{onward, room, below_all, fields_more, fields_length, some_unless}
use Rattle.repository.proofs.tables.Counts.scope_of.Goals as goal
use Rattle.repository.proofs.tables.Counts.scope_of.Goals.{In-Some}

turn : (c : In-Some) → ComeTo (pieces c.args.text.now) (length c.loop-piece.yielded) c.in-Some.piece.now
turn c =
    come_to (pieces c.args.text.now) (length c.loop-piece.yielded) c.in-Some.piece.now (YieldsList-turn (YieldsList-at c.into_iter-piece-iterator.ensures.into_iter_gives (YieldsList-from_pieces _ c.args.text.now c.split-piece-items.ensures.rest c.split-piece-items.ensures.done c.split-piece-items.ensures.closure (λ x b q k. search (rules, tests)))) c.loop-piece.yielded c.loop-piece.piece-iterator c.loop-piece.yielded_by c.next.result c.next.new.self c.in-Some.piece c.in-Some.is c.next.ensures.steps)

pub intern-number-requires : goal.intern-number-requires
intern-number-requires c =
    let ps = pieces c.args.text.now in
    let here = turn (goal.at.intern-number-requires c).In-Some in
    let n = length c.loop-piece.yielded in
    let r = room (held_by c.args.self.now c.args.tables.now) ps n (n + 1) c.in-Some.piece.now here.0 here.1 refl (held_by c.loop-piece.self c.loop-piece.tables) _ c.loop-piece.invariant.held in
    record { sound = c.loop-piece.invariant.extends.sound; few = omega (arith, r.0, c.requires.few); short = omega (arith, r.1, c.requires.short) }

pub overflow_cast-number : goal.overflow_cast-number
overflow_cast-number c =
    let ps = pieces c.args.text.now in
    let here = turn (goal.at.overflow_cast-number c).In-Some in
    let n = length c.loop-piece.yielded in
    let b = below_all (held_by c.args.self.now c.args.tables.now) ps n (n + 1) c.in-Some.piece.now here.0 here.1 refl (held_by c.loop-piece.self c.loop-piece.tables) _ c.loop-piece.invariant.held in
    omega (arith, b, c.requires.few, c.intern-number.ensures.number)

pub unwrap-scope-requires : goal.unwrap-scope-requires
unwrap-scope-requires c =
    let ps = pieces c.args.text.now in
    let all = learned (held_by c.args.self.now c.args.tables.now) ps in
    let here = turn (goal.at.unwrap-scope-requires c).In-Some in
    let n = length c.loop-piece.yielded in
    let b = below_all (held_by c.args.self.now c.args.tables.now) ps n (n + 1) c.in-Some.piece.now here.0 here.1 refl (held_by c.loop-piece.self c.loop-piece.tables) _ c.loop-piece.invariant.held in
    let few : length (atoms_in c.loop-piece.scope) < 8 = omega (arith, ap length c.loop-piece.invariant.fields, fields_length all ps n (omega (arith, here.0)), here.0, c.requires.eight) in
    some_unless _ c.with_atom.result c.with_atom.ensures few (omega (arith, b, c.requires.few, c.intern-number.ensures.number))

pub loop-piece-preserved : goal.loop-piece-preserved
loop-piece-preserved c =
    let ps = pieces c.args.text.now in
    let held = held_by c.args.self.now c.args.tables.now in
    let here = turn (goal.at.loop-piece-preserved c).In-Some in
    let n = length c.loop-piece.yielded in
    let more = length_push c.loop-piece.yielded c.in-Some.piece in
    let told = c.intern-number.ensures in
    let inv = c.loop-piece.invariant in
    record {
      next = search rules;
      finite = tt;
      extends = extends_more inv.extends told.extends;
      held =
          ap (λ l. learned l (drop (length (c.loop-piece.yielded ++ c.in-Some.piece ∷ [])) ps)) told.held
          ∙ onward held ps n _ c.in-Some.piece.now here.0 here.1 more (held_by c.loop-piece.self c.loop-piece.tables) _ inv.held;
      fields =
          rw c.unwrap-scope.ensures at c.with_atom.ensures
          ∙ ap (λ l. l ++ (c.intern-number.result + 1) ∷ []) inv.fields
          ∙ ap (λ k. fields_for (learned held ps) (take n ps) ++ (k + 1) ∷ []) told.number
          ∙ sym (fields_more held ps n _ c.in-Some.piece.now here.0 here.1 more (held_by c.loop-piece.self c.loop-piece.tables) _ inv.held);
    }

pub returns : goal.returns
returns c =
    let ps = pieces c.args.text.now in
    let n = length c.loop-piece.yielded in
    let inv = c.loop-piece.invariant in
    let end = YieldsList-end (YieldsList-at c.into_iter-piece-iterator.ensures.into_iter_gives (YieldsList-from_pieces _ c.args.text.now c.split-piece-items.ensures.rest c.split-piece-items.ensures.done c.split-piece-items.ensures.closure (λ x b q k. search (rules, tests)))) c.loop-piece.yielded c.loop-piece.piece-iterator c.loop-piece.yielded_by c.next.result c.next.new.self c.in-None.is c.next.ensures.steps in
    record {
      extends = inv.extends;
      held = sym (at_drop_all (learned (held_by c.loop-piece.self c.loop-piece.tables)) ps n (omega (arith, end.1))) ∙ inv.held;
      fields = inv.fields ∙ ap (fields_for (learned (held_by c.args.self.now c.args.tables.now) ps)) (take_all n ps (omega (arith, end.1)));
    }
