use Rattle.std.proofs.Common.{◌≡◌, ◌+◌, ◌≤◌, length}
use Rattle.lines.specs.Lines.{stretches}
use Rattle.records.proofs.replay.Given as goal

abbrev pub invariant-loop-record : goal.invariant-loop-record
invariant-loop-record g l =
    (l.tally.records + length l.record-iterator ≡ length (stretches 10 l.text)) × (length (stretches 10 l.text) ≤ length l.text)
