use Rattle.scripts.proofs.Growing.{SoFar}
use Rattle.scripts.proofs.numbers.number.Given as goal

abbrev pub invariant-loop-b : goal.invariant-loop-b
invariant-loop-b l = SoFar l.w l.b-index l.n
