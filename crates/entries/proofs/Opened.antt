-- Fit entries: the desk they hold, their rows and counts where the port is open, and another row set.
-- Assumes nothing.
use mathlib.Core.Path.{◌≡◌, refl, sym, ap, subst, ◌∙◌}
use mathlib.Core.Bool.{true, false}
use mathlib.Core.List.{List}
use Prim.Native.Nat.{ℕ, ◌≤◌}
use native.Mathlib.Omega.{arith}
use lib.ListN.{length}
use Rattle.laws.specs.Lists.{filled}
use Rattle.laws.proofs.Rows.{filled_take, filled_length}
use Rattle.meaning.specs.declared.Slot.{Slot}
use Rattle.meaning.specs.declared.Stream.{Stream}
use Rattle.meaning.specs.Ranges.{most_slots, most_streams}
use Rattle.meaning.specs.Desks.{Desk, bare, opened}
use Rattle.meaning.specs.Promises.{Sound, SoundDesk}
use Rattle.rows.specs.Rows.{slot_row, stream_row, no_slot, no_stream}
use Rattle.entries.specs.declared.Entries.{Entries}
use Rattle.entries.specs.Entries.{filled_entries, entries_of, held_in, FitEntries}
use Rattle.entries.specs.Entries.{port_in, slots_in, streams_in, with_slot_row, with_stream_row}

-- the struct of a desk holds that desk
pub held_of_entries : (x : Desk) → held_in (entries_of x) ≡ x
unfolding held_in entries_of filled_entries slot_row stream_row
held_of_entries bare = refl
held_of_entries (opened p ss js) = λ i. opened p (filled_take 32 no_slot ss i) (filled_take 64 no_stream js i)

-- the struct of a sound desk may be handed to any edit
pub entries_fit : (x : Desk) → SoundDesk x → FitEntries (entries_of x)
entries_fit x s =
    record {
      sound = subst SoundDesk (sym (held_of_entries x)) s;
      canonical = ap entries_of (sym (held_of_entries x));
    }

-- ---- what is held

pub held_bare : (e : Entries) → e.opened ≡ false → held_in e ≡ bare
unfolding held_in
held_bare e o = rw o

-- what is cited where the port is open: what is held, the struct, and that rows and counts are those of the lists held
pub record Open (e : Entries) : Type 0 where
  pub holds : held_in e ≡ opened (port_in e) (slots_in e) (streams_in e)
  pub struct : e ≡ entries_of (opened (port_in e) (slots_in e) (streams_in e))
  pub sound : Sound (port_in e) (slots_in e) (streams_in e)
  pub slots_row : e.slots ≡ slot_row (slots_in e)
  pub slots_count : e.nslots ≡ length (slots_in e)
  pub slots_few : e.nslots ≤ 32
  pub slots_long : length e.slots ≡ 32
  pub streams_row : e.streams ≡ stream_row (streams_in e)
  pub streams_count : e.nstreams ≡ length (streams_in e)
  pub streams_few : e.nstreams ≤ 64
  pub streams_long : length e.streams ≡ 64

pub open_entries : (e : Entries) → FitEntries e → e.opened ≡ true → Open e
unfolding held_in entries_of filled_entries slot_row stream_row most_slots most_streams
open_entries e f o =
    let k : held_in e ≡ opened (port_in e) (slots_in e) (streams_in e) = rw o in
    let q : e ≡ entries_of (opened (port_in e) (slots_in e) (streams_in e)) = f.canonical ∙ ap entries_of k in
    let s : Sound (port_in e) (slots_in e) (streams_in e) = subst SoundDesk k f.sound in
    let n : e.nslots ≡ length (slots_in e) = ap (λ (x : Entries). x.nslots) q in
    let m : e.nstreams ≡ length (streams_in e) = ap (λ (x : Entries). x.nstreams) q in
    record {
      holds = k;
      struct = q;
      sound = s;
      slots_row = ap (λ (x : Entries). x.slots) q;
      slots_count = n;
      slots_few = omega (arith, s.few_slots);
      slots_long = ap (λ (x : Entries). length x.slots) q ∙ filled_length 32 no_slot (slots_in e) s.few_slots;
      streams_row = ap (λ (x : Entries). x.streams) q;
      streams_count = m;
      streams_few = omega (arith, s.few_streams);
      streams_long = ap (λ (x : Entries). length x.streams) q ∙ filled_length 64 no_stream (streams_in e) s.few_streams;
    }

-- ---- another row, as a row of as many places

module _ (e : Entries) (h : Open e) where
  slots_filled : (ss : List Slot) → filled (length e.slots) no_slot ss ≡ slot_row ss
  unfolding slot_row
  slots_filled ss = ap (λ (k : ℕ). filled k no_slot ss) h.slots_long

  streams_filled : (js : List Stream) → filled (length e.streams) no_stream js ≡ stream_row js
  unfolding stream_row
  streams_filled js = ap (λ (k : ℕ). filled k no_stream js) h.streams_long

  pub slots_free : e.slots ≡ filled (length e.slots) no_slot (slots_in e)
  slots_free = h.slots_row ∙ sym (slots_filled (slots_in e))

  pub streams_free : e.streams ≡ filled (length e.streams) no_stream (streams_in e)
  streams_free = h.streams_row ∙ sym (streams_filled (streams_in e))

  pub slots_set : (row : List Slot) (n : ℕ) (ss : List Slot) → row ≡ filled (length e.slots) no_slot ss → n ≡ length ss
      → with_slot_row e row n ≡ entries_of (opened (port_in e) ss (streams_in e))
  unfolding entries_of filled_entries
  slots_set row n ss r l = λ i. with_slot_row (h.struct i) ((r ∙ slots_filled ss) i) (l i)

  pub streams_set : (row : List Stream) (n : ℕ) (js : List Stream) → row ≡ filled (length e.streams) no_stream js
      → n ≡ length js
      → with_stream_row e row n ≡ entries_of (opened (port_in e) (slots_in e) js)
  unfolding entries_of filled_entries
  streams_set row n js r l = λ i. with_stream_row (h.struct i) ((r ∙ streams_filled js) i) (l i)
