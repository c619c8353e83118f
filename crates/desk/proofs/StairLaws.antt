-- The stairs of what is held: built from its gate numbers and runs, or kept by an edit that leaves both as they are.
-- Assumes nothing.
use mathlib.Core.Path.{◌≡◌, sym, ap, ◌∙◌}
use mathlib.Core.Bool.{true}
use mathlib.Core.List.{List, []}
use Prim.Native.Nat.{ℕ, ◌≤◌, zero-le}
use native.Mathlib.Omega.{arith}
use lib.ListN.{length, take}
use Rattle.laws.proofs.Rows.{filled_take}
use Rattle.meaning.specs.declared.Port.{Port}
use Rattle.meaning.specs.declared.Gate.{Gate}
use Rattle.meaning.specs.declared.Slot.{Slot}
use Rattle.meaning.specs.declared.Stream.{Stream}
use Rattle.meaning.specs.declared.Run.{Run}
use Rattle.meaning.specs.Ranges.{most_slots}
use Rattle.meaning.specs.Runs.{gate_of, runs}
use Rattle.meaning.specs.Interference.{pairs, stairs_of, stairs}
use Rattle.meaning.specs.Refusals.{accepted}
use Rattle.meaning.specs.Desks.{bare, opened}
use Rattle.meaning.specs.Desks.{Desk as Plan}
use Rattle.meaning.specs.Calls.{open_port, add_slot, remove_slot, add_stream, remove_stream}
use Rattle.meaning.specs.Promises.{Sound}
use Rattle.meaning.proofs.Refusing.{accepted≢refused}
use Rattle.meaning.proofs.Conditions.{open_says, add_slot_says, remove_slot_says, add_stream_says, remove_stream_says}
use Rattle.meaning.proofs.Sounds.{gate_of_streams, gate_chain}
use Rattle.meaning.proofs.ChainFree.{runs_few}
use Rattle.meaning.proofs.Gates.{slots_stairway}
use Rattle.gate.specs.declared.RunRow.{RunRow}
use Rattle.gate.specs.Rows.{no_run, run_row}
use Rattle.table.specs.declared.Table.{Table}
use Rattle.table.specs.Rows.{table_of}
use Rattle.stairs.specs.Rows.{RunsFit}
use Rattle.stairs.proofs.Rows.{slots_fit}
use Rattle.entries.specs.declared.Entries.{Entries}
use Rattle.entries.specs.Entries.{filled_entries, entries_of, held_in, port_in, slots_in, streams_in, gate_in}
use Rattle.entries.proofs.Opened.{Open}
use Rattle.entries.proofs.GateLaws.{gate_fits}
use Rattle.desk.specs.declared.Desk.{Desk}
use Rattle.desk.specs.Desks.{filled_desk, desk_of}
use Rattle.desk.specs.Edits.{with_entries}

-- ---- the stairs built

runs_fit : (p : Port) (ss : List Slot) (js : List Stream) → Sound p ss js
    → RunsFit (gate_of p js).cycle (runs (gate_of p js) ss)
unfolding most_slots
runs_fit p ss js s =
    slots_fit (gate_of p js) ss (gate_fits p js s.port_in).cycle_most s.few_slots
    (gate_chain p js ss s.chain) s.some_free

-- what a row of runs holds
runs_taken : (rs : List Run) (found : RunRow) → found ≡ run_row rs → take found.n found.row ≡ rs
unfolding run_row
runs_taken rs found e = rw e (filled_take 32 no_run rs)

-- these entries with these stairs
abbrev with_table : Entries → Table → Desk
with_table e t =
    record {
      opened = e.opened;
      rate = e.rate;
      cycle = e.cycle;
      guard = e.guard;
      header = e.header;
      nslots = e.nslots;
      slots = e.slots;
      nstreams = e.nstreams;
      streams = e.streams;
      nstairs = t.n;
      far = t.far;
      tot = t.tot;
    }

module _ (e : Entries) (h : Open e) (g : Gate) (q : g ≡ gate_in e) where
  found_fit : RunsFit g.cycle (runs g (slots_in e))
  found_fit = rw q (runs_fit (port_in e) (slots_in e) (streams_in e) h.sound)

  module _ (found : RunRow) (k : found ≡ run_row (runs g (slots_in e))) where
    pub few_found : found.n ≤ 32
    unfolding run_row
    few_found = rw k found_fit.few

    module _ (rs : List Run) (r : rs ≡ take found.n found.row) where
      same_runs : rs ≡ runs g (slots_in e)
      same_runs = r ∙ runs_taken (runs g (slots_in e)) found k

      -- their stairs may be built
      pub may_build : (length rs ≤ 32) × RunsFit g.cycle rs
      may_build = rw same_runs (found_fit.few, found_fit)

      -- with them it is the one struct of what is held
      pub stairs_set : (t : Table) → t ≡ table_of (stairs_of (pairs g.cycle rs)) → with_table e t ≡ desk_of (held_in e)
      unfolding entries_of filled_entries desk_of filled_desk table_of stairs
      stairs_set t b =
          let st : t ≡ table_of (stairs (gate_in e) (slots_in e)) =
          b
          ∙ ap (λ (rs : List Run). table_of (stairs_of (pairs g.cycle rs))) same_runs
          ∙ ap (λ (x : Gate). table_of (stairs x (slots_in e))) q in
          (λ i. with_table (h.struct i) (st i)) ∙ ap desk_of (sym h.holds)

-- a desk with a slot more or less is open
pub added_open : (s : Slot) (y x : Plan) → add_slot s y ≡ accepted x → (entries_of x).opened ≡ true
unfolding add_slot entries_of filled_entries
added_open s bare x a = absurd (accepted≢refused (sym a))
added_open s (opened p ss js) x a =
    let (_, _, _, _, q) = ((add_slot_says s p ss js).accepts x).0 a in
    ap (λ (z : Plan). (entries_of z).opened) q

pub removed_open : (start : ℕ) (y x : Plan) → remove_slot start y ≡ accepted x → (entries_of x).opened ≡ true
unfolding remove_slot entries_of filled_entries
removed_open start bare x a = absurd (accepted≢refused (sym a))
removed_open start (opened p ss js) x a =
    let (_, q) = ((remove_slot_says start p ss js).accepts x).0 a in
    ap (λ (z : Plan). (entries_of z).opened) q

-- ---- the stairs kept

-- the stairs of the desk y are those of x too
abbrev Stay : Plan → Plan → Type 0
Stay y x = with_entries (desk_of y) (entries_of x) ≡ desk_of x

-- they are the same whatever streams are held
stairs_stay : (p : Port) (ss : List Slot) (js ks : List Stream) → Stay (opened p ss js) (opened p ss ks)
unfolding desk_of filled_desk entries_of filled_entries
stairs_stay p ss js ks = ap (λ (g : Gate). filled_desk true p ss ks (stairs g ss)) (gate_of_streams p js ks)

pub add_stream_stairs : (j : Stream) (y x : Plan) → add_stream j y ≡ accepted x → Stay y x
unfolding add_stream
add_stream_stairs j bare x a = absurd (accepted≢refused (sym a))
add_stream_stairs j (opened p ss js) x a =
    let (_, _, _, q) = ((add_stream_says j p ss js).accepts x).0 a in
    rw q (stairs_stay p ss js _)

pub remove_stream_stairs : (id : ℕ) (y x : Plan) → remove_stream id y ≡ accepted x → Stay y x
unfolding remove_stream
remove_stream_stairs id bare x a = absurd (accepted≢refused (sym a))
remove_stream_stairs id (opened p ss js) x a =
    let (_, q) = ((remove_stream_says id p ss js).accepts x).0 a in
    rw q (stairs_stay p ss js _)

-- no slots, no stairs
no_stairs : (g : Gate) → stairs g [] ≡ []
no_stairs g = (slots_stairway g []).none (omega (arith, runs_few g [] zero-le))

-- a bare desk has the stairs of no slots already
pub open_stairs : (p : Port) (y x : Plan) → open_port p y ≡ accepted x → Stay y x
unfolding open_port desk_of filled_desk entries_of filled_entries
open_stairs p bare x a =
    let (_, q) = ((open_says p).accepts x).0 a in
    rw q (ap (filled_desk true p [] []) (sym (no_stairs (gate_of p []))))
open_stairs p (opened o ss js) x a = absurd (accepted≢refused (sym a))
