-- `gate::Slots::some_free` meets its contract: some cell is free exactly where some gap is wide.
use Rattle.std.proofs.Common.{ap, sym, ◌∙◌, ◌-◌, length, arith}
use Rattle.meaning.specs.declared.Slot.{Slot}
use Rattle.gate.proofs.Walks.{free_none}
use Rattle.gate.proofs.Hangs.{no_slot, within}
use Rattle.gate.proofs.Turns.{free_start, wide_here, wide_later, wide_none}
use Rattle.gate.proofs.Slots.some_free.Goals as goal

pub returns-in_default : goal.returns-in_default
returns-in_default c =
    let now = c.args.self.now in
    sym (free_none now.gate now.slots.now c.in_default.ensures.item.3 now.fits.gate.cycle_least)

pub loop-s-init : goal.loop-s-init
loop-s-init c =
    let now = c.args.self.now in
    let ss = now.slots.now in
    let (some, at) = c.in-Some.ensures.item.3 in
    let x = within 0 0 now.gate.cycle ss now.fits.chain (length ss - 1) (omega arith) in
    let e = at no_slot in
    (omega (arith, x.near, x.far, ap (λ (s : Slot). s.end) e), rw e (free_start now.gate ss now.fits.chain some))

pub overflow_add-s : goal.overflow_add-s
overflow_add-s c =
    let now = c.args.self.now in
    let x = within 0 0 now.gate.cycle now.slots.now now.fits.chain c.loop-s.s-index c.loop-s-test.true in
    omega (arith, x.some, x.near, x.far, now.fits.gate.cycle_most)

pub returns-then-before-reach : goal.returns-then-before-reach
returns-then-before-reach c =
    sym (c.loop-s.invariant.1 ∙ wide_here _ _ _ _ c.loop-s-test.true c.if-before-reach.true)

pub overflow_add-before-in-loop-s : goal.overflow_add-before-in-loop-s
overflow_add-before-in-loop-s c =
    let now = c.args.self.now in
    let x = within 0 0 now.gate.cycle now.slots.now now.fits.chain c.loop-s.s-index c.loop-s-test.true in
    omega (arith, x.near, x.far, now.fits.gate.cycle_most)

pub loop-s-preserved : goal.loop-s-preserved
loop-s-preserved c =
    let now = c.args.self.now in
    let x = within 0 0 now.gate.cycle now.slots.now now.fits.chain c.loop-s.s-index c.loop-s-test.true in (
      omega (arith, x.near, x.far),
      c.loop-s.invariant.1 ∙ wide_later _ _ _ _ c.loop-s-test.true c.if-before-reach.false,
    )

pub returns : goal.returns
returns c = sym (c.loop-s.invariant.1 ∙ wide_none _ _ _ _ c.loop-s-test.false)
