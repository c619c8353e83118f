-- `desk::ports::open_port` meets its contract: a bare desk has the stairs of no slots already.
use Rattle.meaning.specs.Calls.{open_port}
use Rattle.ranges.specs.Numbers.{port_of}
use Rattle.desk.proofs.Answers.{may_edit, kept_edit}
use Rattle.desk.proofs.StairLaws.{open_stairs}
use Rattle.desk.proofs.ports.open_port.Goals as goal

pub hold_port-answer-requires : goal.hold_port-answer-requires
hold_port-answer-requires c = may_edit c.args.d c.requires _ c.entries_of-made.ensures

pub returns : goal.returns
returns c =
    let call = open_port (port_of c.args.p) in
    kept_edit c.args.d c.requires _ c.entries_of-made.ensures call _ _
    c.hold_port-answer.ensures (open_stairs (port_of c.args.p)) _ c.keep_stairs.ensures
