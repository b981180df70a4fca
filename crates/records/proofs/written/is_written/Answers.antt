use Rattle.std.proofs.Common.{◌≡◌, ◌↔◌, IsTrue, take, rules}
use Rattle.records.proofs.Spelled.{name_of}
use Rattle.records.proofs.written.is_written.Goals as goal

pub returns-in-Ok : goal.returns-in-Ok
returns-in-Ok c =
    let same : IsTrue c.eq.result ↔ (take c.in-Ok.count c.write.new.output ≡ c.args.name.now) = search rules in
    name_of c.eq.result c.in-Ok.ensures.writes (search rules) same
