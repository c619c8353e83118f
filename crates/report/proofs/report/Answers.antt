-- `report::report` meets its contract: what the reader answers decides which text is written.
use Rattle.report.proofs.Reported.{told_read, told_refused, read_desk, refused_plan}
use Rattle.report.proofs.report.Goals as goal

pub put_findings-requires : goal.put_findings-requires
put_findings-requires c =
    let (e, q, k) = told_read _ _ _ c.read-reply.ensures.0 c.in-Ok.is in
    (c.read-reply.ensures.1, (read_desk c.args.input.now e _ q k).0, c.requires)

pub returns-in-Ok : goal.returns-in-Ok
returns-in-Ok c =
    let (e, q, k) = told_read _ _ _ c.read-reply.ensures.0 c.in-Ok.is in
    rw (read_desk c.args.input.now e _ q k).1 at c.put_findings.ensures

pub returns-in-Err : goal.returns-in-Err
returns-in-Err c =
    let q = told_refused _ _ _ c.read-reply.ensures.0 c.in-Err.is in
    rw (refused_plan c.args.input.now _ _ q) at c.put_refused.ensures
