use Rattle.std.proofs.Common.{◌≡◌, ◌/◌, ◌^◌, Bool, true, ◌&&◌, eqb, sym, ap, ◌∙◌, arith}
use Rattle.std.proofs.lemmas.Bool.Decides.{nat_tests}
use Rattle.scopes.specs.Fields.{fields, used, starts}
use Rattle.scopes.specs.Scopes.{atoms_in, fields_in}
use Rattle.scopes.proofs.Words.{starts_some, starts_none, prefix_by}
use Rattle.scopes.proofs.scope.Scope.is_prefix_of.Goals as goal

first : (t z : Bool) → t ≡ true → z ≡ (t && z)
first t z e = simp e

pub returns-then-self-other : goal.returns-then-self-other
unfolding atoms_in fields_in
returns-then-self-other c =
    let same : eqb c.args.self.a c.args.other.a ≡ true = grind (arith, nat_tests) in
    let told = c.same_above.ensures ∙ ap (λ n. eqb (c.args.self.b / 2 ^ n) (c.args.other.b / 2 ^ n)) c.unused_bits.ensures in
    let e = told ∙ first _ _ same ∙ sym (starts_some c.args.self.a c.args.self.b (omega arith) (omega arith) c.args.self.used_first c.args.other.a c.args.other.b (omega arith) (omega arith) c.if-self-ne0.true) in
    record { decides = prefix_by _ (used (fields c.args.self.a c.args.self.b)) _ e; test = e }

pub returns-then-self-ne0-2 : goal.returns-then-self-ne0-2
unfolding atoms_in fields_in
returns-then-self-ne0-2 c =
    let told = c.same_above-then-self-ne0-2.ensures ∙ ap (λ n. eqb (c.args.self.a / 2 ^ n) (c.args.other.a / 2 ^ n)) c.unused_bits-then-self-ne0-2.ensures in
    let e = told ∙ sym (starts_none c.args.self.a c.args.self.b (omega arith) (omega arith) c.args.self.used_first c.args.other.a c.args.other.b (omega arith) (omega arith) c.if-self-ne0.false c.if-self-ne0-2.true) in
    record { decides = prefix_by _ (used (fields c.args.self.a c.args.self.b)) _ e; test = e }

pub returns-else-self-ne0-2 : goal.returns-else-self-ne0-2
unfolding atoms_in fields_in
returns-else-self-ne0-2 c =
    let e = sym (ap (λ n. starts (used (fields n c.args.self.b)) (fields c.args.other.a c.args.other.b)) c.if-self-ne0-2.false) in
    record { decides = prefix_by _ (used (fields c.args.self.a c.args.self.b)) _ e; test = e }
