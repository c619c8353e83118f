-- Adding and removing a stream: the meaning's answer in each case, from the tests of the code.
-- Assumes nothing.
use mathlib.Core.Path.{◌≡◌, refl, sym, ap}
use mathlib.Core.Bool.{true, false, not}
use mathlib.Core.List.{List}
use Prim.Native.Nat.{ℕ, ◌+◌, ◌-◌, ◌≤◌, ◌<◌}
use native.Mathlib.Omega.{arith}
use lib.ListN.{length}
use lib.Dec.{eqb}
use Rattle.laws.specs.Lists.{keep, filled, without, RisingBy}
use Rattle.laws.proofs.Inserting.{length_insert_by}
use Rattle.laws.proofs.Shifting.{length_without}
use Rattle.meaning.specs.declared.Stream.{Stream}
use Rattle.meaning.specs.declared.Refusal.TheVariants.{OutOfTurn, OutOfRange, Full, IdHeld, NotHeld}
use Rattle.meaning.specs.Ranges.{most_streams, octet_limit, stream_ranges, in_range}
use Rattle.meaning.specs.Response.{others}
use Rattle.meaning.specs.Refusals.{accepted, refused}
use Rattle.meaning.specs.Desks.{opened}
use Rattle.meaning.specs.Calls.{with_stream, add_stream, remove_stream}
use Rattle.meaning.proofs.Conditions.{AddStreamSays, add_stream_says, remove_stream_says}
use Rattle.rows.specs.Rows.{no_stream}
use Rattle.entries.specs.declared.Entries.{Entries}
use Rattle.entries.specs.Entries.{entries_of, held_in, port_in, slots_in, streams_in, with_stream_row}
use Rattle.entries.proofs.Opened.{Open, held_bare, streams_set}
use Rattle.entries.proofs.Places.{held}

-- ---- adding

module _ (e : Entries) (j : Stream) where
  pub add_stream_out_of_turn : e.opened ≡ false → add_stream j (held_in e) ≡ refused OutOfTurn
  unfolding add_stream
  add_stream_out_of_turn o = ap (add_stream j) (held_bare e o)

  module _ (h : Open e) where
    says : AddStreamSays j (port_in e) (slots_in e) (streams_in e)
    says = add_stream_says j (port_in e) (slots_in e) (streams_in e)

    pub add_stream_out_of_range : in_range (stream_ranges (octet_limit (port_in e)) j) ≡ false
        → add_stream j (held_in e) ≡ refused OutOfRange
    add_stream_out_of_range r = rw h.holds (says.out_of_range.1 r)

    module _ (r : in_range (stream_ranges (octet_limit (port_in e)) j) ≡ true) where
      pub add_stream_full : 64 ≤ e.nstreams → add_stream j (held_in e) ≡ refused Full
      unfolding most_streams
      add_stream_full n = rw h.holds (says.full.1 (r, omega (arith, h.streams_count)))

      module _ (n : e.nstreams < 64) where
        room : length (streams_in e) < most_streams
        unfolding most_streams
        room = omega (arith, h.streams_count)

        pub add_stream_id_held : held (λ x. x.id) j.id (streams_in e) ≡ true → add_stream j (held_in e) ≡ refused IdHeld
        add_stream_id_held o = rw h.holds (says.id_held.1 (r, room, o))

        pub add_stream_accepts : held (λ x. x.id) j.id (streams_in e) ≡ false
            → add_stream j (held_in e) ≡ accepted (opened (port_in e) (slots_in e) (with_stream j (streams_in e)))
        add_stream_accepts o = rw h.holds ((says.accepts _).1 (r, room, o, refl))

    -- the row with j, of which one more is held
    pub add_stream_row : (row : List Stream) → row ≡ filled (length e.streams) no_stream (with_stream j (streams_in e))
        → with_stream_row e row (e.nstreams + 1)
        ≡ entries_of (opened (port_in e) (slots_in e) (with_stream j (streams_in e)))
    add_stream_row row r =
        streams_set e h row (e.nstreams + 1) (with_stream j (streams_in e)) r
        (omega (arith, h.streams_count, length_insert_by (λ x. x.id) j (streams_in e)))

-- ---- removing

module _ (e : Entries) (id : ℕ) where
  pub remove_stream_out_of_turn : e.opened ≡ false → remove_stream id (held_in e) ≡ refused OutOfTurn
  unfolding remove_stream
  remove_stream_out_of_turn o = ap (remove_stream id) (held_bare e o)

  module _ (h : Open e) where
    pub remove_stream_not_held : held (λ x. x.id) id (streams_in e) ≡ false
        → remove_stream id (held_in e) ≡ refused NotHeld
    remove_stream_not_held n =
        rw h.holds ((remove_stream_says id (port_in e) (slots_in e) (streams_in e)).not_held.1 n)

    pub remove_stream_accepts : (p : ℕ) → held (λ x. x.id) id (streams_in e) ≡ true
        → (RisingBy (λ x. x.id) (streams_in e)
        → keep (λ x. not (eqb x.id id)) (streams_in e) ≡ without p (streams_in e))
        → remove_stream id (held_in e) ≡ accepted (opened (port_in e) (slots_in e) (without p (streams_in e)))
    unfolding others
    remove_stream_accepts p n left =
        rw h.holds
        (((remove_stream_says id (port_in e) (slots_in e) (streams_in e)).accepts _).1 (
          n,
          ap (λ (js : List Stream). opened (port_in e) (slots_in e) js) (sym (left h.sound.ids_rise)),
        ))

    -- the row without the stream, of which one less is held
    pub remove_stream_row : (p : ℕ) → p < length (streams_in e) → (row : List Stream)
        → row ≡ filled (length e.streams) no_stream (without p (streams_in e))
        → with_stream_row e row (e.nstreams - 1)
        ≡ entries_of (opened (port_in e) (slots_in e) (without p (streams_in e)))
    remove_stream_row p n row r =
        streams_set e h row (e.nstreams - 1) (without p (streams_in e)) r
        (omega (arith, h.streams_count, length_without p (streams_in e) n))
