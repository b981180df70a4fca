use Rattle.std.proofs.Common.{◌≡◌, ℕ, ◌*◌, ◌^◌, ◌<◌, List, [], ◌∷◌, length, take, drop, sym, ap, ◌∙◌, subst, arith, rules, drop_of_length-le}
use Rattle.std.proofs.lemmas.List.{length-take-le}
use Rattle.scopes.specs.declared.scope.Scope.{Scope}
use Rattle.rankings.specs.Layings.{atoms}
use Rattle.deepest.specs.Worths.{Room, value, worth}
use Rattle.deepest.specs.declared.Digits.{Digits}
use Rattle.deepest.specs.Rooms.{room_start, room_words}
use Rattle.deepest.specs.BestLaws.{not_empty}
use Rattle.deepest.proofs.Layings.{search_start, search_taken, search_more, search_missing, search_whole}
use Rattle.deepest.proofs.search_down.Goals as goal

pub loop-scope-init : goal.loop-scope-init
loop-scope-init c =
    let path = c.args.path.now in
    let i = length c.args.stack.now in
    let none : worth (drop (length path) path) [] ≡ 0 = ap (λ (ps : List Scope). worth ps []) (drop_of_length-le path (omega arith)) in
    let e = c.default-rank.ensures in
    let is : c.default-rank.result ≡ record { top = 0; upper = 0; lower = 0; bottom = 0 } = λ t. record { top = e.0 t; upper = e.1.0 t; lower = e.1.1.0 t; bottom = e.1.1.1 t } in
    let blank : Room (record { top = 0; upper = 0; lower = 0; bottom = 0 }) i = record { top = room_start 3 i; upper = room_start 2 i; lower = room_start 1 i; bottom = room_start 0 i } in
    (([], search_start path c.args.stack.now, ap value is ∙ sym none), subst (λ (d : Digits). Room d i) (sym is) blank, c.requires)

pub loop-scope-preserved : goal.loop-scope-preserved
loop-scope-preserved c =
    let path = c.args.path.now in
    let stack = c.args.stack.now in
    let left = c.loop-scope.left.now in
    let below = c.loop-scope.below.now in
    let s = c.in-Some.scope.now in
    let rest = c.in-Some.rest.now in
    let q = c.in_ok-position.position in
    let inv = c.loop-scope.invariant in
    let gs = inv.0.0 in
    let g = search_taken path stack left below gs s rest q inv.0.1 c.in-Some.ensures.cases c.in_ok-position.ensures in
    let more = ap (λ (ps : List Scope). worth ps (q ∷ gs)) (search_more path stack left below gs s rest inv.0.1 c.in-Some.ensures.cases) in
    let n : c.len.result * 2 ^ (4 * q) ≡ atoms s * 2 ^ (4 * q) = ap (λ (m : ℕ). m * 2 ^ (4 * q)) c.len.ensures.count in
    let at : q < length below = c.in_ok-position.ensures.0.within in
    let short : length (take q below) ≡ q = length-take-le q below (omega arith) in
    ((q ∷ gs, g, omega (arith, c.with_digit-rank.ensures.value, inv.0.2, more, n)), rw short c.with_digit-rank.ensures.room, omega (arith, short, inv.2))

pub returns-in_err-position : goal.returns-in_err-position
returns-in_err-position c =
    let path = c.args.path.now in
    let stack = c.args.stack.now in
    let inv = c.loop-scope.invariant.0 in
    rw c.from_residual.ensures
    (λ some laid.
    search_missing path stack c.loop-scope.left.now c.loop-scope.below.now inv.0 c.in-Some.scope.now c.in-Some.rest.now
    inv.1 c.in-Some.ensures.cases c.in_err-position.ensures laid.0 laid.1)

pub returns : goal.returns
returns c =
    let path = c.args.path.now in
    let stack = c.args.stack.now in
    let inv = c.loop-scope.invariant in
    let gs = inv.0.0 in
    let z : length c.loop-scope.left.now ≡ 0 = c.in_default.ensures.cases in
    let h = search_whole path stack c.loop-scope.left.now c.loop-scope.below.now gs z inv.0.1 in
    let v : value c.loop-scope.rank ≡ worth path gs = inv.0.2 ∙ ap (λ (m : ℕ). worth (drop m path) gs) z in
    record {
      some = not_empty path (search rules);
      words = room_words c.loop-scope.rank (length c.loop-scope.below.now) inv.1;
      laid = (gs, h.0, v);
      most = λ qs l. omega (arith, h.1 qs l, v);
    }
