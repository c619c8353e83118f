-- What was written reads back: the writer's fields make the desk again, each edit accepted.
-- Assumes nothing.
use mathlib.Core.Path.{◌≡◌, refl, sym, ap, ◌∙◌}
use mathlib.Core.Logic.{⊎_elim}
use mathlib.Core.Bool.{true, false, and-false}
use mathlib.Core.List.{List, [], ◌∷◌, ◌++◌, map, append-nil}
use mathlib.Core.List.Memᴰ
use Prim.Native.Nat.{◌≤◌, ◌<◌}
use native.Mathlib.Omega.{arith}
use lib.Dec.{ltb, eqb}
use lib.ListN.{length, length-append}
use lib.Seq.{append_snoc}
use borrow.Author.Tests.{lt-leb, le-ltb, ne_eqb}
use Rattle.laws.specs.Lists.{Mem}
use Rattle.laws.proofs.Lists.{mem_head, any_false}
use Rattle.laws.proofs.Keeping.{rising_parts}
use Rattle.laws.proofs.Joining.{insert_last}
use Rattle.meaning.specs.declared.Port.{Port}
use Rattle.meaning.specs.declared.Slot.{Slot}
use Rattle.meaning.specs.declared.Stream.{Stream}
use Rattle.meaning.specs.Ranges.{most_slots, most_streams, octet_limit}
use Rattle.meaning.specs.Runs.{gate_of, has_free}
use Rattle.meaning.specs.Refusals.{accepted, unless}
use Rattle.meaning.specs.Desks.{Desk, bare, opened}
use Rattle.meaning.specs.Calls.{overlaps, open_port, add_slot, add_stream}
use Rattle.meaning.specs.Promises.{Sound, SoundDesk}
use Rattle.meaning.specs.Bytes.{Field, port_field, slot_field, stream_field, fields_of}
use Rattle.meaning.specs.Bytes.{edit}
use Rattle.meaning.specs.Bytes.{read, read_plan, plan_octets}
use Rattle.meaning.proofs.Cells.{fewer_slots_free}
use Rattle.meaning.proofs.Chains.{chain_mem, chain_split}
use Rattle.meaning.proofs.Sounds.{gate_of_streams}
use Rattle.meaning.proofs.InRange.{octet_limit_most, port_in_lem, slot_in, stream_in}
use Rattle.meaning.proofs.Fields.{FieldFits}
use Rattle.meaning.proofs.Readings.{and_then, edit_all, edit_append}
use Rattle.meaning.proofs.FieldRows.{joined_made}
use Rattle.meaning.proofs.Accepted.{accepted_edits}

-- edits each of which puts one thing behind those already there
rebuilt : {A : Type 0} (field : A → Field) (desk : List A → Desk) (all : List A)
    → ((before : List A) (x : A) (rest : List A) → all ≡ before ++ x ∷ rest
    → edit (field x) (desk before) ≡ accepted (desk (before ++ (x ∷ []))))
    → edit_all (map field all) (desk []) ≡ accepted (desk all)
unfolding edit_all
rebuilt {A} field desk all each = go [] all refl
  where
    go : (before rest : List A) → all ≡ before ++ rest → edit_all (map field rest) (desk before) ≡ accepted (desk all)
    go before [] e = ap (λ (l : List A). accepted (desk l)) (sym (append-nil before) ∙ sym e)
    go before (x ∷ rest) e =
        ap (λ a. and_then a (edit_all (map field rest))) (each before x rest e)
        ∙ go (before ++ (x ∷ [])) rest (e ∙ sym (append_snoc before x rest))

module _ (p : Port) (ss : List Slot) (js : List Stream) (sound : Sound p ss js) where
  opens : edit (port_field p) bare ≡ accepted (opened p [] [])
  unfolding edit open_port unless
  opens = rw sound.port_in

  -- the gate's numbers are in force before the streams are there
  free_at_first : has_free (gate_of p []) ss ≡ true
  free_at_first = rw (gate_of_streams p [] js) sound.some_free

  slot_behind : (before : List Slot) (s : Slot) (rest : List Slot) → ss ≡ before ++ s ∷ rest
      → edit (slot_field s) (opened p before []) ≡ accepted (opened p (before ++ (s ∷ [])) [])
  unfolding edit add_slot unless
  slot_behind before s rest e =
      rw (
        (slot_in p.cycle s).1 (held s here),
        lt-leb most_slots (length before)
            (omega (arith, sound.few_slots, ap length e, length-append before (s ∷ rest))),
        (any_false (overlaps s) before).1 apart,
        insert_last (λ (x : Slot). x.start) s before
            (λ x m. omega (arith, held x (earlier x m), ends x m)),
        fewer_slots_free (gate_of p []) ss (before ++ (s ∷ [])) among free_at_first,
      )
    where
      held : (x : Slot) → Mem x ss → (x.start < x.end) × (x.end ≤ p.cycle)
      held x m = let (_, a, b) = chain_mem 0 ss p.cycle sound.chain x m in (a, b)

      earlier : (x : Slot) → Mem x before → Mem x ss
      earlier x m = rw e (Memᴰ.append_left (s ∷ rest) m)

      here : Mem s ss
      here = rw e (Memᴰ.append_right before (mem_head s rest))

      ends : (x : Slot) → Mem x before → x.end ≤ s.start
      ends x m =
          let (links, _) = chain_split 0 before s rest p.cycle (rw e at sound.chain) in
          (chain_mem 0 before s.start links x m).2

      apart : (x : Slot) → Mem x before → overlaps s x ≡ false
      apart x m = rw (le-ltb s.start x.end (ends x m)) (and-false (ltb x.start s.end))

      among : (x : Slot) → Mem x (before ++ (s ∷ [])) → Mem x ss
      among x m =
          ⊎_elim (earlier x) (λ k. Memᴰ.cast (Memᴰ.eq_of_singleton k) here) (Memᴰ.append_cases before m)

  stream_behind : (before : List Stream) (j : Stream) (rest : List Stream) → js ≡ before ++ j ∷ rest
      → edit (stream_field j) (opened p ss before) ≡ accepted (opened p ss (before ++ (j ∷ [])))
  unfolding edit add_stream unless
  stream_behind before j rest e =
      rw (
        sound.streams_in j (rw e (Memᴰ.append_right before (mem_head j rest))),
        lt-leb most_streams (length before)
            (omega (arith, sound.few_streams, ap length e, length-append before (j ∷ rest))),
        (any_false (λ (x : Stream). eqb x.id j.id) before).1
            (λ x m. ne_eqb x.id j.id (λ q. omega (arith, below x m))),
        insert_last (λ (x : Stream). x.id) j before (λ x m. omega (arith, below x m)),
      )
    where
      below : (x : Stream) → Mem x before → x.id < j.id
      below x m =
          let (_, _, less) = rising_parts (λ (x : Stream). x.id) before (j ∷ rest) (rw e at sound.ids_rise) in
          less x j m (mem_head j rest)

  edits_rebuild : edit_all (fields_of (opened p ss js)) bare ≡ accepted (opened p ss js)
  unfolding fields_of edit_all
  edits_rebuild =
      ap (λ a. and_then a (edit_all (map slot_field ss ++ map stream_field js))) opens
      ∙ edit_append (map slot_field ss) (map stream_field js) (opened p [] [])
      ∙ ap (λ a. and_then a (edit_all (map stream_field js)))
      (rebuilt slot_field (λ (l : List Slot). opened p l []) ss slot_behind)
      ∙ rebuilt stream_field (λ (l : List Stream). opened p ss l) js stream_behind

  pub fields_fit : (f : Field) → Mem f (fields_of (opened p ss js)) → FieldFits f
  unfolding fields_of
  fields_fit f m =
      ⊎_elim (λ (e : f ≡ port_field p). rw e (let h = (port_in_lem p).0 sound.port_in in omega arith))
      (λ k. ⊎_elim slots streams (Memᴰ.append_cases (map slot_field ss) k)) (Memᴰ.cases_cons m)
    where
      slots : Mem f (map slot_field ss) → FieldFits f
      slots k =
          let (s, i, e) = Memᴰ.of_map slot_field ss k in
          let h = chain_mem 0 ss p.cycle sound.chain s i in
          let c = (port_in_lem p).0 sound.port_in in
          rw (← e) (omega arith)

      streams : Mem f (map stream_field js) → FieldFits f
      streams k =
          let (j, i, e) = Memᴰ.of_map stream_field js k in
          let h = (stream_in (octet_limit p) j).0 (sound.streams_in j i) in
          rw (← e) (omega (arith, octet_limit_most p))

-- a sound desk that is written and read is the same desk
pub written_reads_back : (p : Port) (ss : List Slot) (js : List Stream) → SoundDesk (opened p ss js)
    → read_plan (plan_octets (opened p ss js)) ≡ read (opened p ss js)
unfolding plan_octets fields_of
written_reads_back p ss js sound =
    let fs = map slot_field ss ++ map stream_field js in
    (accepted_edits (port_field p) fs _ (joined_made (port_field p ∷ fs) (fields_fit p ss js sound)) (opened p ss js)).1
    (edits_rebuild p ss js sound)
