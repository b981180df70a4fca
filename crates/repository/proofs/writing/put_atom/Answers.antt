use Rattle.std.proofs.Common.{◌≡◌, ◌≤◌, [], ◌∷◌, ◌++◌, length, take, drop, sym, ap, ◌∙◌, arith}
use Rattle.std.proofs.lemmas.List.{append_assoc, length_push, length-take-le}
use Rattle.repository.proofs.Spelling.{put_on, led_some}
use Rattle.repository.proofs.writing.put_atom.Goals as goal

pub returns-clause-after : goal.returns-clause-after
returns-clause-after c =
    let at = c.args.at in
    let out = c.args.output.now in
    let atom = c.args.atom.now in
    let front = take at out ++ 46 ∷ [] in
    let there : at ≤ length out = omega arith in
    let long : length front ≡ c.put-next.result = length_push (take at out) 46 ∙ omega (arith, length-take-le at out there, c.put-next.ensures.end) in
    let now : c.put-next.new.output ≡ front ++ drop c.put-next.result out = c.put-next.ensures.after ∙ sym (append_assoc (take at out) (46 ∷ []) (drop c.put-next.result out)) in
    put_on front out c.put-next.new.output c.put-2.new.output atom c.put-next.result c.put-2.result long now c.put-2.ensures.end c.put-2.ensures.after
    ∙ ap (λ l. l ++ drop c.put-2.result out) (append_assoc (take at out) (46 ∷ []) atom)
    ∙ append_assoc (take at out) (46 ∷ atom) (drop c.put-2.result out)
    ∙ ap (λ l. take at out ++ (l ++ drop c.put-2.result out)) (sym (led_some c.args.index atom c.if-index-eq0.false))
