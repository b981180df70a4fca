use Rattle.std.proofs.Common.{◌-◌, length, take, drop}
use Rattle.scripts.specs.Words.{Word}
use Rattle.scripts.proofs.Cutting.{cuts, only, rest_short}
use Rattle.scripts.proofs.words.word.Goals as goal

pub returns : goal.returns
returns c =
    let text = c.args.text.now in
    let from = c.word_start-start in
    let to = c.word_end-end in
    let w = take (to.result - from.result) (drop from.result text) in
    let rest = take (length text - to.result) (drop to.result text) in
    let h : Word text w rest = cuts text from.result to.result to.ensures.rising to.ensures.within from.ensures.before from.ensures.first to.ensures.plain to.ensures.last in
    record { word = h; once = only text w rest h; shorter = rest_short text w rest h }
