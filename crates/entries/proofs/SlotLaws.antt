-- Adding and removing a slot: the meaning's answer in each case, from the tests of the code.
-- Assumes nothing.
use mathlib.Core.Path.{◌≡◌, refl, sym, ap, ap₂, ◌∙◌}
use mathlib.Core.Bool.{Bool, true, false, not}
use mathlib.Core.List.{List}
use Prim.Native.Nat.{ℕ, ◌+◌, ◌-◌, ◌≤◌, ◌<◌, zero-le}
use native.Mathlib.Omega.{arith}
use lib.ListN.{length, take}
use lib.Dec.{eqb}
use Rattle.laws.specs.Lists.{any, keep, filled, without, RisingBy}
use Rattle.laws.proofs.Lists.{any_false}
use Rattle.laws.proofs.Rows.{filled_take}
use Rattle.laws.proofs.Inserting.{length_insert_by}
use Rattle.laws.proofs.Shifting.{length_without}
use Rattle.meaning.specs.declared.Gate.{Gate}
use Rattle.meaning.specs.declared.Slot.{Slot}
use Rattle.meaning.specs.declared.Refusal.TheVariants.{OutOfTurn, OutOfRange, Overlap, Full, NotHeld, NoFreeCell}
use Rattle.meaning.specs.Ranges.{most_slots, slot_ranges, in_range}
use Rattle.meaning.specs.Runs.{has_free}
use Rattle.meaning.specs.Refusals.{accepted, refused}
use Rattle.meaning.specs.Desks.{opened}
use Rattle.meaning.specs.Calls.{overlaps, with_slot, add_slot, remove_slot}
use Rattle.meaning.proofs.InRange.{slot_in}
use Rattle.meaning.proofs.InRange.{port_in_lem, slot_in}
use Rattle.meaning.proofs.Conditions.{AddSlotSays, add_slot_says, remove_slot_says}
use Rattle.meaning.proofs.Sounds.{chain_insert, chain_rises, gate_chain}
use Rattle.rows.specs.Rows.{no_slot}
use Rattle.gate.specs.Rows.{SlotsFit}
use Rattle.entries.specs.declared.Entries.{Entries}
use Rattle.entries.specs.Entries.{entries_of, held_in, port_in, slots_in, streams_in, gate_in, with_slot_row}
use Rattle.entries.proofs.Opened.{Open, held_bare, slots_set}
use Rattle.entries.proofs.GateLaws.{gate_fits}
use Rattle.entries.proofs.Places.{held}

-- ---- adding

module _ (e : Entries) (s : Slot) where
  pub add_slot_out_of_turn : e.opened ≡ false → add_slot s (held_in e) ≡ refused OutOfTurn
  unfolding add_slot
  add_slot_out_of_turn o = ap (add_slot s) (held_bare e o)

  module _ (h : Open e) where
    says : AddSlotSays s (port_in e) (slots_in e) (streams_in e)
    says = add_slot_says s (port_in e) (slots_in e) (streams_in e)

    pub add_slot_out_of_range : in_range (slot_ranges e.cycle s) ≡ false → add_slot s (held_in e) ≡ refused OutOfRange
    add_slot_out_of_range r = rw h.holds (says.out_of_range.1 r)

    module _ (r : in_range (slot_ranges e.cycle s) ≡ true) where
      pub add_slot_full : 32 ≤ e.nslots → add_slot s (held_in e) ≡ refused Full
      unfolding most_slots
      add_slot_full n = rw h.holds (says.full.1 (r, omega (arith, h.slots_count)))

      module _ (n : e.nslots < 32) where
        room : length (slots_in e) < most_slots
        unfolding most_slots
        room = omega (arith, h.slots_count)

        pub add_slot_overlap : any (overlaps s) (slots_in e) ≡ true → add_slot s (held_in e) ≡ refused Overlap
        add_slot_overlap o = rw h.holds (says.overlap.1 (r, room, o))

        module _ (o : any (overlaps s) (slots_in e) ≡ false) where
          pub add_slot_no_free_cell : has_free (gate_in e) (with_slot s (slots_in e)) ≡ false
              → add_slot s (held_in e) ≡ refused NoFreeCell
          add_slot_no_free_cell z = rw h.holds (says.no_free_cell.1 (r, room, o, z))

          pub add_slot_accepts : has_free (gate_in e) (with_slot s (slots_in e)) ≡ true
              → add_slot s (held_in e) ≡ accepted (opened (port_in e) (with_slot s (slots_in e)) (streams_in e))
          add_slot_accepts z = rw h.holds ((says.accepts _).1 (r, room, o, z, refl))

    -- the row with s, of which one more is held
    module _ (row : List Slot) (k : row ≡ filled (length e.slots) no_slot (with_slot s (slots_in e))) where
      more : e.nslots + 1 ≡ length (with_slot s (slots_in e))
      more = omega (arith, h.slots_count, length_insert_by (λ x. x.start) s (slots_in e))

      -- it holds the slots with s
      taken : take (e.nslots + 1) row ≡ with_slot s (slots_in e)
      taken = rw (k, more) (filled_take (length e.slots) no_slot (with_slot s (slots_in e)))

      pub add_slot_row : with_slot_row e row (e.nslots + 1)
          ≡ entries_of (opened (port_in e) (with_slot s (slots_in e)) (streams_in e))
      add_slot_row = slots_set e h row (e.nslots + 1) (with_slot s (slots_in e)) k more

      module _ (g : Gate) (q : g ≡ gate_in e) where
        -- whether it leaves a free cell may be asked
        pub may_test_free : in_range (slot_ranges e.cycle s) ≡ true → e.nslots < 32
            → any (overlaps s) (slots_in e) ≡ false
            → SlotsFit g (take (e.nslots + 1) row)
        may_test_free r n o =
            let (b, c) = (slot_in e.cycle s).0 r in
            let apart = (any_false (overlaps s) (slots_in e)).0 o in
            rw (q, taken) (record {
              few = omega (arith, more);
              gate = gate_fits (port_in e) (streams_in e) h.sound.port_in;
              chain =
                  gate_chain (port_in e) (streams_in e) (with_slot s (slots_in e))
                  (chain_insert s 0 e.cycle (slots_in e) zero-le b c apart h.sound.chain);
            })

        pub free_tested : (b : Bool) → b ≡ has_free g (take (e.nslots + 1) row)
            → has_free (gate_in e) (with_slot s (slots_in e)) ≡ b
        free_tested b f = sym (f ∙ ap₂ has_free q taken)

-- ---- removing

module _ (e : Entries) (start : ℕ) where
  pub remove_slot_out_of_turn : e.opened ≡ false → remove_slot start (held_in e) ≡ refused OutOfTurn
  unfolding remove_slot
  remove_slot_out_of_turn o = ap (remove_slot start) (held_bare e o)

  module _ (h : Open e) where
    pub remove_slot_not_held : held (λ x. x.start) start (slots_in e) ≡ false
        → remove_slot start (held_in e) ≡ refused NotHeld
    remove_slot_not_held n =
        rw h.holds ((remove_slot_says start (port_in e) (slots_in e) (streams_in e)).not_held.1 n)

    pub remove_slot_accepts : (p : ℕ) → held (λ x. x.start) start (slots_in e) ≡ true
        → (RisingBy (λ x. x.start) (slots_in e)
        → keep (λ x. not (eqb x.start start)) (slots_in e) ≡ without p (slots_in e))
        → remove_slot start (held_in e) ≡ accepted (opened (port_in e) (without p (slots_in e)) (streams_in e))
    remove_slot_accepts p n left =
        rw h.holds
        (((remove_slot_says start (port_in e) (slots_in e) (streams_in e)).accepts _).1 (
          n,
          ap (λ (ss : List Slot). opened (port_in e) ss (streams_in e))
              (sym (left (chain_rises 0 e.cycle (slots_in e) h.sound.chain))),
        ))

    -- the row without the slot, of which one less is held
    pub remove_slot_row : (p : ℕ) → p < length (slots_in e) → (row : List Slot)
        → row ≡ filled (length e.slots) no_slot (without p (slots_in e))
        → with_slot_row e row (e.nslots - 1) ≡ entries_of (opened (port_in e) (without p (slots_in e)) (streams_in e))
    remove_slot_row p n row r =
        slots_set e h row (e.nslots - 1) (without p (slots_in e)) r
        (omega (arith, h.slots_count, length_without p (slots_in e) n))
