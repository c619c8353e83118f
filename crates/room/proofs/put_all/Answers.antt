-- `room::put_all` meets its contract: each field fills the front of what those before it leave.
use Rattle.std.proofs.Common.{◌≡◌, ℕ, ◌*◌, ◌≤◌, length, List, ap, arith}
use Rattle.laws.specs.Lists.{joined}
use Rattle.laws.proofs.Without.{mem_get}
use Rattle.meaning.specs.Bytes.{Field, field_length, field_octets}
use Rattle.meaning.proofs.Fields.{field_length_lem}
use Rattle.room.proofs.Rooms.{fill_start, fill_turn, fill_end, part_fits, rest_fits, row_joined, row_octets, wrote_as}
use Rattle.room.proofs.put_all.Goals as goal

-- room for all of the fields, of k octets each, is room for their octets
all_fit : {A : Type 0} (field : A → Field) (k : ℕ) → ((x : A) → field_length (field x) ≡ k) → (xs : List A) (n : ℕ)
    → k * length xs ≤ n → length (joined (λ (x : A). field_octets (field x)) xs) ≤ n
all_fit field k each xs n h = omega (arith, row_octets field k each xs, ap length (row_joined field xs))

pub loop-x-init : goal.loop-x-init
loop-x-init g c = fill_start _ c.args.out.now c.args.items.now

pub put-at-requires : goal.put-at-requires
put-at-requires g c =
    let l = c.loop-x in
    let x = c.x-item.result in
    let all = all_fit g.T.AsField.as_field _ g.met.T.AsField.long c.args.items.now _ c.requires.room in
    let next =
    part_fits _ c.args.out.now c.args.items.now all l.out l.at l.x-index x c.x-item.is c.loop-x-test.true
    l.invariant in (
      rest_fits l.out l.at _ (omega (arith, field_length_lem (g.T.AsField.as_field x), g.met.T.AsField.long x)),
      c.requires.fit x (rw (← c.x-item.is) at (mem_get c.args.items.now l.x-index x c.loop-x-test.true)),
    )

pub loop-x-preserved : goal.loop-x-preserved
loop-x-preserved g c =
    let l = c.loop-x in
    let all = all_fit g.T.AsField.as_field _ g.met.T.AsField.long c.args.items.now _ c.requires.room in
    fill_turn _ c.args.out.now c.args.items.now all l.out l.at l.x-index _ c.x-item.is c.loop-x-test.true l.invariant
    _ _ c.put-at.ensures

pub returns : goal.returns
returns g c =
    wrote_as (row_joined g.T.AsField.as_field c.args.items.now)
    (fill_end _ c.args.out.now c.args.items.now _ _ c.loop-x.x-index c.loop-x-test.false c.loop-x.invariant)
