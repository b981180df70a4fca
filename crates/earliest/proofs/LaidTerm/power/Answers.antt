use Rattle.std.proofs.Common.{◌*◌, ap, ◌∙◌, arith}
use Rattle.std.specs.Float.{binary64}
use Rattle.std.specs.Float.Ieee.{of_bits}
use Rattle.earliest.specs.Doubles.{power_of_bits, up_to_infinity}
use Rattle.earliest.proofs.LaidTerm.power.Goals as goal

pub float_from_bits-result : goal.float_from_bits-result
float_from_bits-result c = up_to_infinity binary64 c.power_bits.result (omega arith)

pub returns : goal.returns
returns c = ap (of_bits binary64) c.power_bits.ensures ∙ power_of_bits (3 * c.args.self.position) (omega arith)
