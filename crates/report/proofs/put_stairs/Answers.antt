-- `report::put_stairs` meets its contract: each line fills the front of what those before it leave.
use borrow.Author.Rules.{rules}
use Rattle.std.proofs.lemmas.Slice.Zip.{zip_turn, zip_end}
use Rattle.std.proofs.lemmas.List.{length_push}
use Rattle.meaning.specs.Findings.{stair_line}
use Rattle.table.specs.Lookup.{paired}
use Rattle.room.proofs.Rooms.{rest_fits, fill_start}
use Rattle.report.proofs.Stairs.{stair_fits, stair_turn, stairs_end}
use Rattle.report.proofs.put_stairs.Goals as goal

pub loop-far-init : goal.loop-far-init
loop-far-init c =
    let s = c.args.stairs.now in
    fill_start stair_line c.args.out.now (paired s.far.now s.tot.now)

pub put_stair-at-requires : goal.put_stair-at-requires
put_stair-at-requires c =
    let s = c.args.stairs.now in
    let now = c.loop-far in
    let t =
    zip_turn s.far.now s.tot.now now.yielded c.into_iter-far-iterator.result now.far-iterator c.next.new.self
    c.next.result (search rules) (search rules) now.yielded_by (c.in-Some.far, c.in-Some.total) c.in-Some.is
    c.next.ensures.steps in
    rest_fits now.out now.at _
    (stair_fits s.far.now s.tot.now c.args.out.now c.requires now.out now.at _ now.invariant
    (record { far = c.in-Some.far.now; total = c.in-Some.total.now }) t.0 t.1 (t.2 0) (t.3 0))

pub loop-far-preserved : goal.loop-far-preserved
loop-far-preserved c =
    let s = c.args.stairs.now in
    let now = c.loop-far in
    let t =
    zip_turn s.far.now s.tot.now now.yielded c.into_iter-far-iterator.result now.far-iterator c.next.new.self
    c.next.result (search rules) (search rules) now.yielded_by (c.in-Some.far, c.in-Some.total) c.in-Some.is
    c.next.ensures.steps in
    rw (length_push now.yielded (c.in-Some.far, c.in-Some.total))
    (stair_turn s.far.now s.tot.now c.args.out.now c.requires now.out now.at _ now.invariant
    (record { far = c.in-Some.far.now; total = c.in-Some.total.now }) t.0 t.1 (t.2 0) (t.3 0) _ _
    c.put_stair-at.ensures)

pub returns : goal.returns
returns c =
    let s = c.args.stairs.now in
    let now = c.loop-far in
    stairs_end s.far.now s.tot.now c.args.out.now c.requires now.out now.at _ now.invariant
    (zip_end s.far.now s.tot.now now.yielded c.into_iter-far-iterator.result now.far-iterator c.next.new.self
    c.next.result (search rules) (search rules) now.yielded_by c.in-None.is c.next.ensures.steps)
