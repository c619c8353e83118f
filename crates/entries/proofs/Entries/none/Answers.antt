-- `entries::Entries::none` meets its contract: all zero is the struct of the bare desk.
use mathlib.Core.Path.{◌≡◌, sym, subst}
use mathlib.Core.Bool.{false}
use lib.ListN.{replicate}
use Rattle.laws.specs.Lists.{filled}
use Rattle.meaning.specs.declared.Slot.{Slot}
use Rattle.meaning.specs.declared.Stream.{Stream}
use Rattle.meaning.specs.Desks.{bare}
use Rattle.meaning.proofs.Sounds.{sound_bare}
use Rattle.rows.specs.Rows.{slot_row, stream_row, no_slot, no_stream}
use Rattle.entries.specs.declared.Entries.{Entries}
use Rattle.entries.specs.Entries.{filled_entries, entries_of, FitEntries}
use Rattle.entries.proofs.Opened.{entries_fit}
use Rattle.entries.proofs.Entries.none.Goals as goal

-- nothing entered, with this slot and this stream in the free places
blank : Slot → Stream → Entries
blank s j =
    record {
      opened = false;
      rate = 0;
      cycle = 0;
      guard = 0;
      header = 0;
      nslots = 0;
      slots = replicate 32 s;
      nstreams = 0;
      streams = replicate 64 j;
    }

blank_fits : (s : Slot) (j : Stream) → s ≡ no_slot → j ≡ no_stream
    → (blank s j ≡ entries_of bare) × FitEntries (blank s j)
unfolding entries_of filled_entries slot_row stream_row filled blank
blank_fits s j p q =
    let e : blank s j ≡ entries_of bare = λ i. blank (p i) (q i) in
    (e, subst FitEntries (sym e) (entries_fit bare sound_bare))

pub returns : goal.returns
unfolding blank
returns c = blank_fits c.free.result c.free-2.result c.free.ensures c.free-2.ensures
