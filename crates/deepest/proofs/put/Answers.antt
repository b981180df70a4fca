use Rattle.std.proofs.Common.{◌≡◌, ℕ, ◌+◌, ◌-◌, ◌*◌, ◌%◌, ◌^◌, ◌<◌, ◌≤◌, ap, ◌∙◌, add-mul, arith, shl_exact}
use Rattle.deepest.specs.Worths.{RoomAt}
use Rattle.deepest.specs.Rooms.{room_take, room_word, raised}
use Rattle.deepest.proofs.put.Goals as goal

-- the digit at its place in the word
abbrev place : goal.Start → ℕ
place c = c.args.position - 16 * c.args.index

abbrev after : goal.Start → ℕ
after c = c.args.word + c.args.digit * 2 ^ (4 * place c) % 2 ^ 64

exact : (c : goal.Start) → after c ≡ c.args.word + c.args.digit * 2 ^ (4 * place c)
exact c =
    let a : c.args.digit < 2 ^ 4 = omega arith in
    let b : 4 + 4 * place c ≤ 64 = omega arith in
    ap (λ (x : ℕ). c.args.word + x) (shl_exact 4 (4 * place c) 64 a b)

room : (c : goal.Start) → RoomAt c.args.index (after c) c.args.position
room c =
    let e : c.args.position ≡ place c + 16 * c.args.index = omega arith in
    let l : place c < 16 = omega arith in
    room_take c.args.index c.args.word c.args.digit c.args.position (place c) (after c) c.requires.few e l c.requires.room (exact c)

pub overflow_add-result : goal.overflow_add-result
overflow_add-result c = omega (arith, room_word c.args.index (after c) c.args.position (room c))

pub returns : goal.returns
returns c =
    let m = 2 ^ (64 * c.args.index) in
    let e : 4 * c.args.position ≡ 4 * place c + 64 * c.args.index = omega arith in
    let up = raised c.args.digit c.args.position (place c) (64 * c.args.index) e in
    record {
      room = room c;
      value = ap (λ (x : ℕ). x * m) (exact c) ∙ add-mul c.args.word (c.args.digit * 2 ^ (4 * place c)) m ∙ ap (λ (x : ℕ). c.args.word * m + x) up;
    }
