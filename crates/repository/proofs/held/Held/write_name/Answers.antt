use Rattle.std.proofs.Common.{◌<◌, ◌++◌, length, take, drop, sym, ap, ◌∙◌, arith}
use Rattle.scopes.specs.Scopes.{atoms_in}
use Rattle.repository.specs.Names.{dotted, led}
use Rattle.repository.specs.Writes.{texts}
use Rattle.repository.proofs.Spelling.{length_more, dotted_more, put_on}
use Rattle.repository.proofs.Texts.{texts_length, text_at}
use Rattle.repository.proofs.held.Held.write_name.Goals as goal

pub loop-index-preserved : goal.loop-index-preserved
loop-index-preserved c =
    let held = c.args.self.now in
    let ts = texts held (atoms_in c.args.scope) in
    let lt : c.loop-index.index < length (atoms_in c.args.scope) = omega arith in
    let in' : c.loop-index.index < length ts = omega (arith, texts_length held c.args.scope) in
    let text = c.atom.ensures.text ∙ sym (text_at held c.args.scope c.loop-index.index c.atom_at-field.result lt c.atom_at-field.ensures) in
    let told = c.put_atom-at.ensures in (
      omega (arith, told.end, c.loop-index.invariant.0, ap (λ a. length (led c.loop-index.index a)) text, length_more ts c.loop-index.index in'),
      put_on (dotted (take c.loop-index.index ts)) c.args.output.now c.loop-index.output c.put_atom-at.new.output (led c.loop-index.index c.atom.result.now) c.loop-index.at c.put_atom-at.result (sym c.loop-index.invariant.0) c.loop-index.invariant.1 told.end told.after
          ∙ ap (λ a. (dotted (take c.loop-index.index ts) ++ led c.loop-index.index a) ++ drop c.put_atom-at.result c.args.output.now) text
          ∙ ap (λ l. l ++ drop c.put_atom-at.result c.args.output.now) (sym (dotted_more ts c.loop-index.index in')),
    )
