use Rattle.earliest.specs.Doubles.{term_is}
use Rattle.earliest.proofs.LaidTerm.value.Goals as goal

pub returns : goal.returns
returns c = term_is c.args.self.atoms c.args.self.position c.power.result c.args.self.lone.some c.args.self.lone.few c.power.ensures
