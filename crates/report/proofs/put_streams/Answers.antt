-- `report::put_streams` meets its contract: each line fills the front of what those before it leave.
use mathlib.Core.Path.{refl}
use borrow.Author.Rules.{rules}
use Rattle.desk.specs.Desks.{streams_in}
use Rattle.room.proofs.Rooms.{rest_fits, fill_start, fill_end}
use Rattle.report.specs.Lines.{line_in}
use Rattle.report.proofs.Streams.{streams_held, stream_fits, stream_turn}
use Rattle.report.proofs.put_streams.Goals as goal

pub shared_ref_as_front-streams : goal.shared_ref_as_front-streams
shared_ref_as_front-streams c = (streams_held c.args.d.now c.requires.0 c.requires.1).1

pub loop-j-init : goal.loop-j-init
loop-j-init c = fill_start (line_in c.args.d.now) c.args.out.now (streams_in c.args.d.now)

pub offset_bounds-streams-j-index : goal.offset_bounds-streams-j-index
offset_bounds-streams-j-index c = let n = streams_held c.args.d.now c.requires.0 c.requires.1 in search rules

pub put_stream-at-requires : goal.put_stream-at-requires
put_stream-at-requires c =
    let l = c.loop-j in
    rest_fits l.out l.at _
    (stream_fits c.args.d.now c.requires.0 c.requires.1 c.args.out.now c.requires.2 l.out l.at l.j-index l.invariant
    c.loop-j-test.true _ _ refl c.response-reply.result (rw c.from.ensures at c.response-reply.ensures.0))

pub loop-j-preserved : goal.loop-j-preserved
loop-j-preserved c =
    let l = c.loop-j in
    stream_turn c.args.d.now c.requires.0 c.requires.1 c.args.out.now c.requires.2 l.out l.at l.j-index l.invariant
    c.loop-j-test.true _ _ refl c.response-reply.result (rw c.from.ensures at c.response-reply.ensures.0) _ _
    c.put_stream-at.ensures

pub returns : goal.returns
returns c =
    let l = c.loop-j in
    fill_end (line_in c.args.d.now) c.args.out.now (streams_in c.args.d.now) l.out l.at l.j-index c.loop-j-test.false
    l.invariant
