-- `desk::streams::remove_stream` meets its contract: a stream less leaves the stairs as they are.
use Rattle.meaning.specs.Calls.{remove_stream}
use Rattle.desk.proofs.Answers.{may_edit, kept_edit}
use Rattle.desk.proofs.StairLaws.{remove_stream_stairs}
use Rattle.desk.proofs.streams.remove_stream.Goals as goal

pub drop_stream-answer-requires : goal.drop_stream-answer-requires
drop_stream-answer-requires c = may_edit c.args.d c.requires _ c.entries_of-fewer.ensures

pub returns : goal.returns
returns c =
    let call = remove_stream c.args.id in
    kept_edit c.args.d c.requires _ c.entries_of-fewer.ensures call _ _
    c.drop_stream-answer.ensures (remove_stream_stairs c.args.id) _ c.keep_stairs.ensures
