use Rattle.std.proofs.Common.{length, sym, ◌∙◌, arith}
use Rattle.std.proofs.lemmas.Bool.{eqb-true}
use Rattle.repository.specs.Tables.{held_by}
use Rattle.repository.proofs.Ends.{held_length, held_total}
use Rattle.repository.proofs.Builds.{accepted_none}
use Rattle.repository.proofs.tables.Counts.build.Goals as goal

pub returns-then-is_empty-clause-builds : goal.returns-then-is_empty-clause-builds
returns-then-is_empty-clause-builds c =
    let held = held_by c.args.self.now c.args.tables.now in
    let few = held_length c.args.self.now c.args.tables.now c.requires in
    let short = held_total c.args.self.now c.args.tables.now c.requires in
    accepted_none held c.args.name.now (eqb-true (length c.args.name.now) 0 (sym c.is_empty.ensures ∙ c.if-is_empty.true)) (omega (arith, few, c.requires.few)) (omega (arith, short, c.requires.short)) c.empty.result c.empty.ensures
