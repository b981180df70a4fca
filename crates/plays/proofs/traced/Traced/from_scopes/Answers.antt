use Rattle.std.proofs.Common.{sym, ap, ◌∙◌}
use Rattle.stacks.specs.Outlines.{scopes_of}
use Rattle.stacks.specs.Stacks.{Stack}
use Rattle.stacks.proofs.Places.{scopes_begun}
use Rattle.plays.proofs.traced.Traced.from_scopes.Goals as goal

pub invariant_of-result : goal.invariant_of-result
invariant_of-result c =
    let stack = c.in_ok-stack.ensures in
    let outline = c.in_ok-outline.ensures in
    record { follows = ap scopes_of outline.1 ∙ scopes_begun c.args.place c.args.scopes.now ∙ sym (ap (λ (s : Stack). s.scopes) stack.1) }
