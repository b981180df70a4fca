use Rattle.lines.proofs.Stretching.{few, short}
use Rattle.lines.proofs.stretches.cut.Goals as goal

pub returns-clause-few : goal.returns-clause-few
returns-clause-few c = few c.args.byte c.args.text.now

pub returns-clause-short : goal.returns-clause-short
returns-clause-short c = short c.args.byte c.args.text.now
