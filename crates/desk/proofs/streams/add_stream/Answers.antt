-- `desk::streams::add_stream` meets its contract: a stream more leaves the stairs as they are.
use Rattle.meaning.specs.Calls.{add_stream}
use Rattle.ranges.specs.Numbers.{stream_of}
use Rattle.desk.proofs.Answers.{may_edit, kept_edit}
use Rattle.desk.proofs.StairLaws.{add_stream_stairs}
use Rattle.desk.proofs.streams.add_stream.Goals as goal

pub hold_stream-answer-requires : goal.hold_stream-answer-requires
hold_stream-answer-requires c = may_edit c.args.d c.requires _ c.entries_of-more.ensures

pub returns : goal.returns
returns c =
    let call = add_stream (stream_of c.args.j) in
    kept_edit c.args.d c.requires _ c.entries_of-more.ensures call _ _
    c.hold_stream-answer.ensures (add_stream_stairs (stream_of c.args.j)) _ c.keep_stairs.ensures
