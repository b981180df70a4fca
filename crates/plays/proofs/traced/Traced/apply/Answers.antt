use Rattle.stacks.specs.declared.outline.Place.{Place}
use Rattle.stacks.proofs.Places.{chain_outlines}
use Rattle.stacks.specs.Tellings.{told_of}
use Rattle.plays.proofs.traced.Traced.apply.Goals as goal

pub returns : goal.returns
returns c =
    let t = c.args.self.now in
    let made = c.apply.ensures in
    let op = c.args.change.operation in
    let place : Place = record { line = c.args.line; position = c.args.change.position } in
    record {
      stack = made.stack;
      outline = chain_outlines place (told_of op t.stack c.apply.result) t.outline c.apply.new.hook made.told;
      follows = (made.follows tt t.follows).0;
    }
