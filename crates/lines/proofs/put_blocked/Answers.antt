-- `lines::put_blocked` meets its contract: the line's last part fills the front of what is left.
use Rattle.meaning.specs.Findings.{octets_in, told, newline, blocked_line}
use Rattle.lines.proofs.Written.{wrote_last}
use Rattle.lines.proofs.put_blocked.Goals as goal

pub returns : goal.returns
unfolding blocked_line told newline octets_in
returns c =
    let a = c.args in
    wrote_last (told " in " a.runs) newline (rw c.from.ensures at c.put_of-at.ensures.0) c.put_last.ensures.0
