use Rattle.std.proofs.Common.{length, sym, arith}
use borrow.Author.Tests.{eqb-false}
use Rattle.scripts.proofs.Growing.{no_number, number_next, number_all}
use Rattle.scripts.proofs.numbers.number.Goals as goal

pub returns-in_err-n : goal.returns-in_err-n
returns-in_err-n c =
    rw c.from_residual.ensures (no_number c.args.w.now c.loop-b.b-index c.loop-b-test.true c.loop-b.n c.loop-b.invariant.1 c.in_err-n.ensures)

pub loop-b-preserved : goal.loop-b-preserved
loop-b-preserved c =
    number_next c.args.w.now c.loop-b.b-index c.loop-b-test.true c.loop-b.n c.in_ok-n.n c.loop-b.invariant c.in_ok-n.ensures
