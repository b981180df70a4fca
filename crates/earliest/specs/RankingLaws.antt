-- The laws of a ranking, as this crate's ranks keep them.
use Rattle.std.specs.Prelude.{◌≡◌, ℕ, ◌<◌, ◌≤◌, true, false, leb, List, length}
use Rattle.std.proofs.Common.{le_of_lt, le_trans}
use Rattle.std.proofs.lemmas.Bool.{le-leb, lt-leb, leb-true, leb-false}
use Rattle.scopes.specs.declared.scope.Scope.{Scope}
use Rattle.rankings.specs.Ranks.{Lone, Answered, Answers}
use Rattle.earliest.specs.Scores.{lone_rank}
use Rattle.earliest.specs.Ranks.{path_rank}
use Rattle.earliest.specs.LoneLaws as lone_laws
use Rattle.earliest.specs.PathLaws as path_laws

pub answers : (p stack : List Scope) → length stack ≤ 64 → Answers p stack (path_rank p stack)
answers p stack h = path_laws.answers p stack

pub total : (x y : ℕ) → Answered lone_rank path_rank x → Answered lone_rank path_rank y → leb x y ≡ false → leb y x ≡ true
total x y a b h = le-leb y x (le_of_lt (leb-false x y h))

pub transitive : (x y z : ℕ) → Answered lone_rank path_rank x → Answered lone_rank path_rank y → Answered lone_rank path_rank z → leb x y ≡ true → leb y z ≡ true → leb x z ≡ true
transitive x y z a b c h k = le-leb x z (le_trans (leb-true x y h) (leb-true y z k))

pub longer : (n m i : ℕ) → Lone n i → Lone m i → n < m → leb (lone_rank m i) (lone_rank n i) ≡ false
longer n m i a b l = lt-leb (lone_rank m i) (lone_rank n i) (lone_laws.longer n m i a.some l b.few a.low)

pub deeper : (n m i j : ℕ) → Lone n i → Lone m j → i < j → leb (lone_rank n i) (lone_rank m j) ≡ true
deeper n m i j a b l = le-leb (lone_rank n i) (lone_rank m j) (lone_laws.deeper n m i j a.some a.few b.some b.few l b.low)
