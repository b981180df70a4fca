use Rattle.std.proofs.Common.{◌≡◌, ◌≢◌, ℕ, ◌<◌, length, get_or, rules}
use Rattle.lines.proofs.Splitting.{splits_here, splits_all}
use Rattle.lines.proofs.split.Goals as goal

pub returns-in-Some-clause-splits : goal.returns-in-Some-clause-splits
returns-in-Some-clause-splits c =
    let text = c.args.text.now in
    let i = c.in-Some.i in
    let inside : i < length text = search rules in
    let found : get_or text i 0 ≡ c.args.byte = search rules in
    let before : (k : ℕ) → k < i → get_or text k 0 ≢ c.args.byte = search rules in
    splits_here text c.args.byte i inside found before

pub returns-in-None-clause-splits : goal.returns-in-None-clause-splits
returns-in-None-clause-splits c =
    let before : (k : ℕ) → k < length c.args.text.now → get_or c.args.text.now k 0 ≢ c.args.byte = search rules in
    splits_all c.args.text.now c.args.byte before
