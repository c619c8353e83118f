-- `table::Stairs::reached` meets its contract: where the distances rise, the lots that u reaches come first.
use mathlib.Core.Path.{◌≡◌}
use mathlib.Core.Bool.{true, false}
use Prim.Native.Nat.{◌-◌, ◌*◌, min}
use native.Mathlib.Omega.{arith}
use lib.Dec.{leb}
use lib.ListN.{get_or, length}
use borrow.Author.Rules.{rules}
use Rattle.std.specs.List.Sorted.{IsPartitionPoint}
use Rattle.std.proofs.lemmas.List.Sorted.{IsPartitionPoint-from_clause}
use Rattle.table.proofs.Reached.{reached_first, counted_next, lots_counted, lots_point, lot_long, lot_has, lot_at}
use Rattle.table.proofs.Stairs.reached.Goals as goal
use Rattle.table.proofs.Stairs.reached.Goals.{After-min}

-- the lots that are reached
point : (c : After-min)
    → IsPartitionPoint (λ lot. leb (get_or lot 63 0) c.args.u ≡ true) (λ lot. leb (get_or lot 63 0) c.args.u ≡ false)
    c.as_chunks.result.0.now c.partition_point-before.result
point c =
    let s = c.args.self.now in
    let cut = c.as_chunks.ensures in
    IsPartitionPoint-from_clause (λ lot. leb (get_or lot 63 0) c.args.u) _ _
    c.partition_point-before.ensures.partitioned
    (reached_first s.far.now c.args.u s.fits.far_rises c.as_chunks.result.0.now cut.front cut.front_len)
    (λ a r q k. search rules)

pub loop-d-init : goal.loop-d-init
loop-d-init c =
    let s = c.args.self.now in
    let cut = c.as_chunks.ensures in
    let p = c.partition_point-before in
    lots_counted s.far.now c.args.u s.fits.far_rises c.as_chunks.result.0.now cut.front cut.front_len p.result
    p.ensures.bound (point c)

pub loop-d-preserved : goal.loop-d-preserved
loop-d-preserved c =
    let s = c.args.self.now in
    let l = c.loop-d in
    let b = 64 * c.partition_point-before.result in
    let m = c.min.result in
    let e = c.min.ensures in
    counted_next s.far.now c.args.u b l.d-index l.n c.from-n.result _ s.fits.far_rises
    (omega (arith, lot_long s.far.now b m e, lot_has s.far.now b m e, c.loop-d-test.true)) l.invariant
    (lot_at s.far.now b m e l.d-index (omega (arith, lot_has s.far.now b m e, c.loop-d-test.true)))
    c.from-n.ensures

pub returns : goal.returns
returns c =
    let s = c.args.self.now in
    let cut = c.as_chunks.ensures in
    let p = c.partition_point-before in
    let l = c.loop-d in
    let b = 64 * p.result in
    let e = c.min.ensures in
    let end : l.d-index ≡ min (length s.far.now - b) 64 =
    omega (
      arith,
      lot_long s.far.now b c.min.result e,
      lot_has s.far.now b c.min.result e,
      l.auto.d-index-end,
      c.loop-d-test.false,
    ) in
    record {
      bound = omega (arith, end, l.invariant.0, p.ensures.bound, cut.front_len);
      partitioned =
          lots_point s.far.now c.args.u s.fits.far_rises c.as_chunks.result.0.now cut.front cut.front_len p.result
          p.ensures.bound (point c.before.before) l.n l.d-index end l.invariant;
    }
