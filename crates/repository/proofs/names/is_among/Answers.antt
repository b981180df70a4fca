use Rattle.std.proofs.Common.{take, ◌∙◌, rules, tests}
use Rattle.std.specs.Str.{bytes_eq}
use Rattle.std.proofs.lemmas.Iterator.{YieldsList-from_take}
use Rattle.std.proofs.lemmas.Iterator.Consumers.{YieldsList-at}
use Rattle.std.proofs.lemmas.Iterator.Search.{any_from_yields_List}
use Rattle.repository.specs.Names.{pieces}
use Rattle.repository.proofs.Cutting.{YieldsList-from_pieces}
use Rattle.repository.proofs.Places.{has_any}
use Rattle.repository.proofs.names.is_among.Goals as goal

pub returns : goal.returns
returns c =
    any_from_yields_List (λ x. bytes_eq x c.args.atom.now) _ _ _ c.any.ensures.ran
    (YieldsList-from_take c.args.count (YieldsList-at c.take.ensures.source (YieldsList-from_pieces _ c.args.text.now c.split.ensures.rest c.split.ensures.done c.split.ensures.closure (λ x b q k. search (rules, tests)))) c.take.ensures.count)
    (λ x b q k. search (rules, tests))
    ∙ has_any (take c.args.count (pieces c.args.text.now)) c.args.atom.now
