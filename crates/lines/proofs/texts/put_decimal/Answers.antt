-- `lines::texts::put_decimal` meets its contract: each turn stores the last digit of what is left of the number.
use native.Mathlib.Omega.{arith}
use Rattle.lines.proofs.Digits.{behind_start, behind_turn}
use Rattle.lines.proofs.texts.put_decimal.Goals as goal

pub loop-i-init : goal.loop-i-init
loop-i-init c = behind_start c.args.out.now c.args.n c.places-k.result c.places-k.ensures

pub loop-i-preserved : goal.loop-i-preserved
loop-i-preserved c =
    let a = c.args in
    behind_turn a.out.now a.n c.loop-i.out c.loop-i.i c.loop-i.rest c.requires (omega arith) c.loop-i.invariant
