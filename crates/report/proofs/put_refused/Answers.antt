-- `report::put_refused` meets its contract: the refusal's line.
use Prim.Native.Nat.{◌<◌}
use native.Mathlib.Omega.{arith}
use borrow.Author.Rules.{rules}
use Rattle.meaning.specs.Findings.{printed}
use Rattle.lines.proofs.Digits.{at_most_20}
use Rattle.report.proofs.put_refused.Goals as goal

pub put_refusal-requires : goal.put_refusal-requires
put_refusal-requires c =
    let n : c.number.result < 18_446_744_073_709_551_616 = search rules in
    let m : c.args.place < 18_446_744_073_709_551_616 = search rules in
    omega (arith, at_most_20 c.number.result n, at_most_20 c.args.place m)

pub returns : goal.returns
unfolding printed
returns c =
    let n = c.number.ensures in
    rw n at c.put_refusal.ensures
