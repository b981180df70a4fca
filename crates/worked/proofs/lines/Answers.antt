use Rattle.std.proofs.Common.{refl}
use lib.Ieee.{round, add, to_bits, of_int}
use Rattle.scopes.specs.Scopes.{atoms_in, fields_in}
use Rattle.worked.proofs.Rounded.{rounded}
use Rattle.worked.proofs.lines.Goals as goal

pub returns : goal.returns
unfolding atoms_in fields_in round add to_bits of_int
returns c = record {
  table = record {
    empty_clear = refl;
    three_earliest = refl;
    three_deepest = refl;
    plain_string = refl;
    plain_formula = refl;
    nested_string = refl;
    nested_formula = refl;
    nested_deepest = refl;
    nested_higher = refl;
    eight_atoms = refl;
    one_atom = refl;
    one_higher = refl;
    rounded_one = refl;
    rounded_two = rounded;
    unrounded_one = refl;
    unrounded_two = refl;
  };
  count = refl;
}
