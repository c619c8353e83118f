-- `stairs::heads` meets its contract: each row's first pair goes to its leaf.
use Rattle.std.proofs.Common.{◌≡◌, ◌<◌, length, refl, arith}
use Rattle.laws.specs.Lists.{total}
use Rattle.meaning.specs.Interference.{all_len}
use Rattle.stairs.specs.Heads.{done}
use Rattle.stairs.proofs.HeadRow.{entered_next}
use Rattle.stairs.proofs.Tree.{standing_none, standing_put, standing_all}
use Rattle.stairs.proofs.heads.Goals as goal

pub loop-i-init : goal.loop-i-init
unfolding done
loop-i-init c = standing_none c.requires.few

pub head-requires : goal.head-requires
unfolding all_len total
head-requires c = record { fits = c.requires; row = c.loop-i-test.true; passed = refl }

pub loop-i-preserved : goal.loop-i-preserved
loop-i-preserved c =
    let few : c.loop-i.i < 32 = omega (arith, c.requires.few) in
    rw (entered_next c.loop-i.i few) at
    (standing_put c.loop-i.invariant c.loop-i.i 0 c.head.result few c.head.ensures c.put.ensures.2)

pub returns : goal.returns
returns c =
    let e : c.loop-i.i ≡ length c.args.runs.now = omega arith in
    standing_all _ refl (rw e at c.loop-i.invariant)
