use Rattle.std.proofs.Common.{◌<◌, length, rules}
use Rattle.lines.proofs.Stretching.{stretches-Splits}
use Rattle.lines.proofs.stretches.StretchesIterator.next.Goals as goal

pub returns-clause-steps : goal.returns-clause-steps
returns-clause-steps c =
    let some : 0 < length c.self.inside.rest.now = search rules in
    let cut = stretches-Splits c.split.ensures.splits some in
    search rules

pub returns-clause-goes : goal.returns-clause-goes
returns-clause-goes c =
    let some : 0 < length c.self.inside.rest.now = search rules in
    let cut = stretches-Splits c.split.ensures.splits some in
    search rules
