use Rattle.std.proofs.Common.{◌+◌, eqb, ap, ◌∙◌, rules, tests}
use Rattle.std.proofs.lemmas.Iterator.{YieldsList-from_slice}
use Rattle.std.proofs.lemmas.Iterator.Consumers.{count_from_yields_List, YieldsList-from_filter}
use Rattle.repository.proofs.Cutting.{dots_between}
use Rattle.repository.proofs.names.count_pieces.Goals as goal

pub returns : goal.returns
returns c =
    ap (λ n. n + 1) (count_from_yields_List _ _ c.count.ensures.ran (YieldsList-from_filter _ (λ b. eqb b 46) (YieldsList-from_slice c.args.text.now (cc)) c.filter.ensures.closure (λ x b q k. search (rules, tests))))
    ∙ dots_between c.args.text.now
