-- `bound::rows_bound` meets its contract: none where no window closes, and else the largest response of the frames
-- that are enough.
use Rattle.std.proofs.Common.{◌≡◌, ℕ, ◌+◌, ◌-◌, replicate, ap₂, arith}
use Rattle.search.specs.Searches.{table_of, asked_of, asked_stream}
use Rattle.meaning.proofs.Arrivals.{counted, most_grows}
use Rattle.bound.proofs.Bounding.{zeros_in, endless_first, endless_window, beside_in, bound_within}
use Rattle.bound.proofs.rows_bound.Goals as goal

pub returns-then-interference-gt-HORIZON : goal.returns-then-interference-gt-HORIZON
returns-then-interference-gt-HORIZON c =
    let r = c.args.rows.now in
    endless_first (table_of c.args.stairs.now) (asked_of c.args.own.now) r.per r.jit r.cost r.n c.requires.v_grows
    (omega (arith, c.interference.ensures))

pub invariant_of-demand : goal.invariant_of-demand
invariant_of-demand c =
    record {
      bounds =
          record {
            all_most = c.requires.all_most;
            first_most = omega (arith, c.interference.ensures);
            grows = c.requires.v_grows;
          };
    }

pub returns-in_err-b : goal.returns-in_err-b
returns-in_err-b c =
    let r = c.args.rows.now in
    rw c.from_residual.ensures
    (endless_window (table_of c.args.stairs.now) (asked_of c.args.own.now) r.per r.jit r.cost r.n c.in_err-b.ensures)

pub overflow_sub-all : goal.overflow_sub-all
overflow_sub-all c =
    let own = c.args.own.now in
    omega (
      arith,
      c.frames_in.ensures.0,
      c.frames_in-2.ensures.0,
      most_grows (counted (asked_stream own) (omega (arith, own.fits.period_least))) 0 c.in_ok-b.b (omega arith),
    )

-- the difference of two counts, from the counts
counts_apart : (x y u v : ℕ) → x ≡ u → y ≡ v → x + 1 - y ≡ u + 1 - v
counts_apart x y u v p q = ap₂ (λ (x y : ℕ). x + 1 - y) p q

pub worst-requires : goal.worst-requires
worst-requires c =
    let r = c.args.rows.now in
    let own = c.args.own.now in
    let w = c.in_ok-b.ensures in
    beside_in (table_of c.args.stairs.now) (asked_of own) r.per r.jit r.cost r.n c.in_ok-b.b w.0 w.1 own.fits
    (c.frames_in.result + 1 - c.frames_in-2.result) c.enough_calm-few.result
    (counts_apart _ _ _ _ c.frames_in.ensures.0 c.frames_in-2.ensures.0) c.enough_calm-few.ensures.1 c.requires.beside

pub returns : goal.returns
returns c =
    let r = c.args.rows.now in
    let own = c.args.own.now in
    let w = c.in_ok-b.ensures in
    let e = c.enough_calm-few in
    bound_within (table_of c.args.stairs.now) (asked_of own) r.per r.jit r.cost r.n c.in_ok-b.b w.0 w.1 own.fits
    (c.frames_in.result + 1 - c.frames_in-2.result) e.result
    (counts_apart _ _ _ _ c.frames_in.ensures.0 c.frames_in-2.ensures.0) e.ensures.1 c.requires.v_spreads
    (replicate 64 0) (zeros_in r.n r.fit.few) e.ensures.0 c.worst.result c.worst.ensures
