-- `lines::put_stair` meets its contract: the line's last part fills the front of what is left.
use Rattle.meaning.specs.Findings.{octets_in, told, newline, stair_line}
use Rattle.lines.proofs.Written.{wrote_last}
use Rattle.lines.proofs.put_stair.Goals as goal

pub returns : goal.returns
unfolding stair_line told newline octets_in
returns c =
    let a = c.args in
    wrote_last (told " " a.x.total) newline (rw c.from.ensures at c.put_told-at.ensures.0)
    (rw c.from-2.ensures at c.put_last.ensures.0)
