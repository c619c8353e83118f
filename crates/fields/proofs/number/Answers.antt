-- `fields::number` meets its contract: octet by octet, the highest first.
use Rattle.std.proofs.Common.{◌≡◌, ℕ, suc, List, ◌+◌, ◌-◌, ◌*◌, ◌<◌, ◌≤◌, ◌^◌, get_or, length, take, drop, ◌∙◌, arith}
use native.Mathlib.Nat.{pow-le-pow_right, pow-suc}
use lib.Seq.{get_or-drop, get_or-take, length-take-le}
use lib.ListN.{length-drop}
use Rattle.fields.proofs.Fronts.{number_start, number_turn}
use Rattle.fields.proofs.number.Goals as goal

-- the octet is one of the w at the place
within : (at w i : ℕ) (xs : List ℕ) → at + w ≤ length xs → i < length (take (at + w - at) (drop at xs)) → i < w
within at w i xs h l =
    let long = length-take-le (at + w - at) (drop at xs) (omega (arith, length-drop at xs)) in omega (arith, long)

octet : (at w i : ℕ) (xs : List ℕ) → i < w → get_or (take (at + w - at) (drop at xs)) i 0 ≡ get_or xs (at + i) 0
octet at w i xs h = get_or-take (at + w - at) (drop at xs) i 0 (omega arith) ∙ get_or-drop at xs i 0

-- up to four octets make a number below 2 ^ 32
fits : (n x i : ℕ) → n < 256 ^ i → x < 256 → i < 4 → n * 256 + x < 4_294_967_296
fits n x i h b l =
    let most : 256 ^ suc i ≤ 4_294_967_296 =
    pow-le-pow_right {n = 256} (omega arith) {i = suc i} {j = 4} (omega arith) in
    let next : 256 ^ suc i ≡ 256 ^ i * 256 = pow-suc 256 i in
    omega arith

pub loop-octet-init : goal.loop-octet-init
loop-octet-init g c = number_start c.args.at c.args.plan.now

pub overflow_mul-n : goal.overflow_mul-n
overflow_mul-n g c =
    let l = c.loop-octet in
    let i = within c.args.at g.row.N l.octet-index c.args.plan.now c.requires.1 c.loop-octet-test.true in
    omega (arith, fits l.n 0 l.octet-index l.invariant.1 (omega arith) (omega (arith, i, c.requires.0)))

pub overflow_add-n : goal.overflow_add-n
overflow_add-n g c =
    let l = c.loop-octet in
    let j = within c.args.at g.row.N l.octet-index c.args.plan.now c.requires.1 c.loop-octet-test.true in
    let here = octet c.args.at g.row.N l.octet-index c.args.plan.now j in
    let small : c.from.result < 256 =
    omega (arith, c.from.ensures, here, c.type_inv.plan (c.args.at + l.octet-index)) in
    omega (arith, fits l.n c.from.result l.octet-index l.invariant.1 small (omega (arith, j, c.requires.0)))

pub loop-octet-preserved : goal.loop-octet-preserved
loop-octet-preserved g c =
    let l = c.loop-octet in
    let k = within c.args.at g.row.N l.octet-index c.args.plan.now c.requires.1 c.loop-octet-test.true in
    let there = octet c.args.at g.row.N l.octet-index c.args.plan.now k in
    let low : c.from.result < 256 =
    omega (arith, c.from.ensures, there, c.type_inv.plan (c.args.at + l.octet-index)) in
    number_turn c.args.at l.octet-index l.n c.args.plan.now c.from.result (omega (arith, k, c.requires.1))
    (c.from.ensures ∙ there) low l.invariant
