-- An outline that follows a stack.
use Rattle.std.specs.Prelude.{◌≡◌}
use Rattle.stacks.specs.Outlines.{scopes_of}
use Rattle.plays.specs.declared.traced.Traced.{Traced}

-- its scopes are those on the stack
abbrev pub Follows : Traced → Type 0
Follows t = scopes_of t.outline ≡ t.stack.scopes
