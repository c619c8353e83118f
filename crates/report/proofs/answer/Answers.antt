-- `report::answer` meets its contract: an input over 4,096 octets has met its refusal in the first 4,096.
use mathlib.Core.Path.{ap, ◌∙◌}
use native.Mathlib.Omega.{arith}
use lib.ListN.{length, drop, length-append}
use Rattle.meaning.specs.Findings.{findings}
use Rattle.meaning.proofs.Printing.{findings_cut}
use Rattle.report.proofs.answer.Goals as goal

pub returns : goal.returns
returns c =
    let r = c.report in
    let a = c.args in
    let written = r.ensures in
    let text = findings a.taken.now in
    let long = ap length written.room ∙ length-append text (drop r.result a.out.now) in (
      λ input e. rw (ap findings e ∙ findings_cut input) at written,
      omega (arith, written.count, long),
    )
