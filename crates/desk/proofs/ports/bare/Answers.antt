-- `desk::ports::bare` meets its contract: all zero is the struct of the bare desk.
use mathlib.Core.Path.{◌≡◌, sym, subst}
use mathlib.Core.Bool.{false}
use lib.ListN.{replicate}
use Rattle.laws.specs.Lists.{filled}
use Rattle.meaning.specs.declared.Slot.{Slot}
use Rattle.meaning.specs.declared.Stream.{Stream}
use Rattle.meaning.specs.Desks.{bare}
use Rattle.rows.specs.Rows.{slot_row, stream_row, no_slot, no_stream}
use Rattle.table.specs.Rows.{table_of}
use Rattle.desk.specs.declared.Desk.{Desk}
use Rattle.desk.specs.Desks.{filled_desk, desk_of, Fit}
use Rattle.desk.proofs.Held.{fit_bare}
use Rattle.desk.proofs.ports.bare.Goals as goal

-- a desk with nothing held, and this slot and this stream in the free places
blank : Slot → Stream → Desk
blank s j =
    record {
      opened = false;
      rate = 0;
      cycle = 0;
      guard = 0;
      header = 0;
      nslots = 0;
      slots = replicate 32 s;
      nstreams = 0;
      streams = replicate 64 j;
      nstairs = 0;
      far = replicate 993 0;
      tot = replicate 993 0;
    }

blank_fits : (s : Slot) (j : Stream) → s ≡ no_slot → j ≡ no_stream → (blank s j ≡ desk_of bare) × Fit (blank s j)
unfolding desk_of filled_desk slot_row stream_row table_of filled blank
blank_fits s j p q =
    let e : blank s j ≡ desk_of bare = λ i. blank (p i) (q i) in
    (e, subst Fit (sym e) fit_bare)

pub returns : goal.returns
unfolding blank
returns c = blank_fits c.free.result c.free-2.result c.free.ensures c.free-2.ensures
