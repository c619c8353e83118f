-- `gate::Slots::hang_ends` meets its contract: the ends are filled in from the last slot back.
use Rattle.std.proofs.Common.{◌≡◌, ◌+◌, ◌<◌, length, ◌-◌, sym, ◌∙◌, arith}
use borrow.Author.Tests.{ltb-false}
use Rattle.meaning.proofs.ChainCells.{reach_of}
use Rattle.gate.proofs.Hangs.{no_slot, within, hangs_none, hangs_put, stops_last, stops_own, stops_next}
use Rattle.gate.proofs.Slots.hang_ends.Goals as goal
use Rattle.gate.proofs.Slots.hang_ends.Goals.{in-Some, in_default-2, in_default}

pub loop-i-init : goal.loop-i-init
loop-i-init c = hangs_none _ _ _ c.args.self.now.fits.few

pub overflow_add-s : goal.overflow_add-s
overflow_add-s c =
    let now = c.args.self.now in
    let f = now.fits.gate in
    let w = within 0 0 now.gate.cycle now.slots.now now.fits.chain (c.loop-i.i - 1) (omega arith) in
    omega (arith, f.cycle_most, f.guard_most, f.header_most, w.near, w.far)

pub loop-i-preserved : goal.loop-i-preserved
loop-i-preserved c =
    let ss = c.args.self.now.slots.now in
    let k = reach_of c.args.self.now.gate in
    let i = c.loop-i.i - 1 in
    let next : c.loop-i.i ≡ i + 1 = omega arith in
    let here : i < length ss = omega arith in
    hangs_put c.loop-i.invariant i next here c.match-get.ends (
    elim c.match-get.branch [
      | in-Some w ↦
          let (h, at) = w.in-Some.ensures.lookup.3 in
          w.ends-is
          ∙ stops_next k ss i c.loop-i.ends (rw next at c.loop-i.invariant) h (rw (at no_slot) at w.if-t-s.true)
      | in_default-2 w ↦
          let (h, at) = w.in-Some.ensures.lookup.3 in
          w.ends-is ∙ stops_own k ss i h (rw (at no_slot) at w.if-t-s.false)
      | in_default w ↦
          let h = rw w.in_default.is at c.get.ensures.lookup in
          w.ends-is ∙ stops_last k ss i (ltb-false _ _ (sym h.0))
    ]
    )
