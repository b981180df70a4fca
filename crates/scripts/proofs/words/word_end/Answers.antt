use Rattle.std.proofs.Common.{◌≡◌, ◌≢◌, ℕ, ◌+◌, ◌-◌, ◌<◌, ◌≤◌, List, length, get_or, take, drop, ◌∙◌, ap, arith, rules}
use Rattle.std.proofs.lemmas.List.{get_or-take, get_or-drop}
use Rattle.scripts.proofs.words.word_end.Goals as goal

-- what holds in the text from `start` on holds there in the whole text
plain_there : (text : List ℕ) (start size : ℕ) → size ≤ length text - start → ((j : ℕ) → j < size → get_or (take (length text - start) (drop start text)) j 0 ≢ 32) → (k : ℕ) → start ≤ k → k < start + size → get_or text k 0 ≢ 32
plain_there text start size short plain k from below blank =
    let back : start + (k - start) ≡ k = omega arith in
    let same : get_or (take (length text - start) (drop start text)) (k - start) 0 ≡ get_or text k 0 =
    get_or-take (length text - start) (drop start text) (k - start) 0 (omega arith) ∙ get_or-drop start text (k - start) 0 ∙ ap (λ i. get_or text i 0) back in
    plain (k - start) (omega arith) (same ∙ blank)

pub returns-in-Some-clause-plain : goal.returns-in-Some-clause-plain
returns-in-Some-clause-plain c =
    let text = c.args.text.now in
    let start = c.args.start in
    let short : c.in-Some.size ≤ length text - start = search rules in
    let plain : (j : ℕ) → j < c.in-Some.size → get_or (take (length text - start) (drop start text)) j 0 ≢ 32 = search rules in
    plain_there text start c.in-Some.size short plain

pub returns-in-None-clause-plain : goal.returns-in-None-clause-plain
returns-in-None-clause-plain c =
    let text = c.args.text.now in
    let start = c.args.start in
    let plain : (j : ℕ) → j < length text - start → get_or (take (length text - start) (drop start text)) j 0 ≢ 32 = search rules in
    λ k from below. plain_there text start (length text - start) (omega arith) plain k from (omega arith)
