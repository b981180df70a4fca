use Rattle.std.proofs.Common.{◌≡◌, ℕ, List, Some, Ok, subst, Bor}
use Rattle.scopes.specs.declared.scope.Scope.{Scope}
use Rattle.repository.specs.Builds.{Builds}
use Rattle.repository.specs.Names.{Atoms}
use Rattle.scripts.specs.declared.directives.Action.{Action}
use Rattle.scripts.specs.declared.directives.Action.TheVariants.{Push, Pop, Clear, Restore, Noop}
use Rattle.scripts.specs.Operations.{Names}
use Rattle.plays.specs.Plays.{Named}
use Rattle.plays.proofs.play.operation_of.Goals as goal

-- an action with a name is a push of it
named : (action : Action) (held after : Atoms) (x : Scope) (name : Bor (List ℕ)) → Names action (Some name) → Builds held name.now (Ok x) after → Named action held x after
named (Push n) held after x name e b = let same : name ≡ n = cc in subst (λ r. Builds held r.now (Ok x) after) same b
named (Pop n) held after x name e b = cc
named (Clear a) held after x name e b = cc
named Restore held after x name e b = cc
named Noop held after x name e b = cc

pub returns-in_ok-scope-in-Some : goal.returns-in_ok-scope-in-Some
returns-in_ok-scope-in-Some c = record {
  scope = c.in_ok-scope-in-Some.scope;
  named = named c.args.action _ _ c.in_ok-scope-in-Some.scope c.in-Some.name c.in-Some.ensures c.in_ok-scope-in-Some.ensures;
  is = c.operation.ensures;
}
