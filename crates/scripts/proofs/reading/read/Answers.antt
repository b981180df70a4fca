use Rattle.scripts.proofs.Answering.{read_once}
use Rattle.scripts.proofs.reading.read.Goals as goal

pub returns : goal.returns
returns c = record { reads = c.said.ensures; once = read_once c.args.line.now c.said.result c.said.ensures }
