use Rattle.std.proofs.Common.{length, ap, arith}
use Rattle.std.proofs.lemmas.List.{length-append}
use Rattle.repository.specs.Held.{atoms_of}
use Rattle.repository.specs.Names.{cut, dotted}
use Rattle.repository.proofs.Owned.{now_later}
use Rattle.pane.proofs.names.Lister.name.Goals as goal

-- the name that is written back is no longer than the one that was read
pub scope-requires : goal.scope-requires
scope-requires g c =
    let repository = c.build.new.self in
    let back = c.in-Ok.ensures.returns (atoms_of repository) (now_later repository) in
    let cuts = c.build.ensures.cut.cuts in
    record {
      given = back.written;
      room = omega (arith, c.requires, ap length back.spelled, ap length cuts.whole, length-append (dotted (cut c.args.name.now)) cuts.ending);
    }
