use Rattle.std.proofs.Common.{◌≡◌, ◌+◌, ◌<◌, ◌≤◌, ℕ, length, get_or, sym, arith, rules}
use Rattle.repository.proofs.Cutting.{strip_last, strip_rest}
use Rattle.repository.proofs.names.without_end_dots.Goals as goal

pub returns-in-Some : goal.returns-in-Some
returns-in-Some c =
    let name = c.args.name.now in
    let n = c.in-Some.last in
    let lt : n < length name = search rules in
    let ne : get_or name n 0 ≡ 46 → ⊥ = search rules in
    let h : (k : ℕ) → n + 1 ≤ k → k < length name → get_or name k 0 ≡ 46 = search rules in
    strip_last name n lt ne h

pub returns-in-None : goal.returns-in-None
returns-in-None c =
    let name = c.args.name.now in
    let h : (k : ℕ) → 0 ≤ k → k < length name → get_or name k 0 ≡ 46 = search rules in
    sym (strip_rest name 0 (omega arith) h)
