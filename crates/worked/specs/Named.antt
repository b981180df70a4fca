-- The scopes of the worked lines, with a middle dot for the dot. A field is an atom's number plus one, most significant
-- first; the atoms, by number from 0, are: a b c d e f g h m string formula sheet template w x y z.
use Rattle.std.specs.Prelude.{refl}
use Rattle.scopes.specs.declared.scope.Scope.{Scope}

abbrev pub a : Scope
a = record { a = 0x0001_0000_0000_0000; b = 0; used_first = refl }

abbrev pub c : Scope
c = record { a = 0x0003_0000_0000_0000; b = 0; used_first = refl }

abbrev pub m : Scope
m = record { a = 0x0009_0000_0000_0000; b = 0; used_first = refl }

abbrev pub string : Scope
string = record { a = 0x000a_0000_0000_0000; b = 0; used_first = refl }

abbrev pub formula : Scope
formula = record { a = 0x000b_0000_0000_0000; b = 0; used_first = refl }

abbrev pub sheet : Scope
sheet = record { a = 0x000c_0000_0000_0000; b = 0; used_first = refl }

abbrev pub template : Scope
template = record { a = 0x000d_0000_0000_0000; b = 0; used_first = refl }

abbrev pub a·b : Scope
a·b = record { a = 0x0001_0002_0000_0000; b = 0; used_first = refl }

abbrev pub c·d : Scope
c·d = record { a = 0x0003_0004_0000_0000; b = 0; used_first = refl }

abbrev pub e·f : Scope
e·f = record { a = 0x0005_0006_0000_0000; b = 0; used_first = refl }

abbrev pub e·f·g : Scope
e·f·g = record { a = 0x0005_0006_0007_0000; b = 0; used_first = refl }

abbrev pub w·x·y·z : Scope
w·x·y·z = record { a = 0x000e_000f_0010_0011; b = 0; used_first = refl }
