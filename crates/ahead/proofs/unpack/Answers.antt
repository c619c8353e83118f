-- `ahead::unpack` meets its contract: the rows are those of the places passed, all but the one that is left out.
use mathlib.Core.Path.{refl, ap, ◌∙◌}
use Prim.Native.Nat.{ℕ}
use native.Mathlib.Omega.{arith}
use lib.ListN.{get_or}
use Rattle.laws.proofs.Without.{mem_get}
use Rattle.ahead.specs.declared.Ahead.{Ahead}
use Rattle.ahead.proofs.Unpacking.{no_stream, same_rows, unpack_start, unpack_here, unpack_ahead, unpack_lower}
use Rattle.ahead.proofs.unpack.Goals.{then-own-s, else-own-s}
use Rattle.ahead.proofs.unpack.Goals as goal

pub loop-i-init : goal.loop-i-init
loop-i-init c = (omega arith, unpack_start _ _ _ c.args.streams.now)

pub loop-i-preserved-then-i-leave : goal.loop-i-preserved-then-i-leave
loop-i-preserved-then-i-leave c =
    let l = c.loop-i in
    (omega arith, unpack_here _ _ _ c.args.streams.now l.i l.invariant.1 c.if-i-leave.true)

pub wire_of-cost-requires : goal.wire_of-cost-requires
wire_of-cost-requires c = c.requires.1 _ (mem_get c.args.streams.now c.loop-i.i no_stream (omega arith))

pub loop-i-preserved : goal.loop-i-preserved
loop-i-preserved c =
    let a = c.args in
    let l = c.loop-i in
    let s = get_or a.streams.now l.i no_stream in
    let n : Ahead → ℕ = λ r. r.n in
    elim c.if-own-s.branch [
      | then-own-s w ↦
          let e = w.a-is ∙ w.push.ensures in (
            omega (arith, ap n e),
            e ∙ unpack_ahead a.rate a.own a.leave a.streams.now l.i l.invariant.1 c.if-i-leave.false (omega arith) s
                refl c.wire_of-cost.ensures.0 w.if-own-s.true (omega arith),
          )
      | else-own-s w ↦ (
        omega (arith, ap n w.a-is),
        w.a-is
            ∙ same_rows refl refl refl refl w.max.ensures
            ∙ unpack_lower a.rate a.own a.leave a.streams.now l.i l.invariant.1 c.if-i-leave.false (omega arith) s refl
            c.wire_of-cost.ensures.0 w.if-own-s.false,
      )
    ]
