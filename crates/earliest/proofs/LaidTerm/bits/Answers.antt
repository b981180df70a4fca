use Rattle.std.proofs.Common.{not, T, sym, subst}
use Rattle.std.specs.Prelude.{is_nan, Float}
use Rattle.earliest.specs.Doubles.{term_number, term_value}
use Rattle.earliest.proofs.LaidTerm.bits.Goals as goal

pub float_to_bits-result : goal.float_to_bits-result
float_to_bits-result c = subst (λ (x : Float). T (not (is_nan x))) (sym c.value.ensures) (term_number c.args.self.atoms c.args.self.position c.args.self.lone.few c.args.self.lone.low)

pub returns-clause-exact : goal.returns-clause-exact
returns-clause-exact c = term_value c.args.self.atoms c.args.self.position c.args.self.lone.few c.args.self.lone.low
