-- `writer::write` meets its contract: the desk is handed back with what is answered.
use Rattle.writer.proofs.Writes.{put_reply}
use Rattle.writer.proofs.write.Goals as goal

pub returns : goal.returns
returns c = put_reply c.args.d c.requires c.args.out.now _ _ c.put_plan-answer.ensures
