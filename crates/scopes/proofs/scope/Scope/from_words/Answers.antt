use Rattle.std.proofs.Common.{sym, ◌∙◌, rules}
use Rattle.std.proofs.lemmas.Bool.Decides.{Decides-at}
use Rattle.scopes.specs.Fields.{fields}
use Rattle.scopes.proofs.Gaps.{packed_decides}
use Rattle.scopes.proofs.scope.Scope.from_words.Goals as goal

pub returns-then-are_packed : goal.returns-then-are_packed
returns-then-are_packed c = record {
  gapless = Decides-at _ _ (sym c.if-are_packed.true ∙ c.are_packed.ensures) (packed_decides (fields c.args.a c.args.b));
  words = search rules;
}

pub returns-else-are_packed : goal.returns-else-are_packed
returns-else-are_packed c = record {
  gapless = Decides-at _ _ (sym c.if-are_packed.false ∙ c.are_packed.ensures) (packed_decides (fields c.args.a c.args.b));
  words = tt;
}
