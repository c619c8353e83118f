-- An accepted plan in the writer's order is written back byte for byte.
-- Assumes nothing.
use mathlib.Core.Path.{◌≡◌, sym, ap, ◌∙◌}
use mathlib.Core.List.{List, [], ◌∷◌, ◌++◌, map, append-nil}
use Prim.Native.Nat.{ℕ}
use native.Mathlib.Omega.{arith}
use lib.Seq.{append_snoc}
use Rattle.laws.specs.Lists.{insert_by, RisingBy}
use Rattle.laws.proofs.Lists.{mem_head}
use Rattle.laws.proofs.Keeping.{rising_parts}
use Rattle.laws.proofs.Joining.{insert_last}
use Rattle.meaning.specs.declared.Port.{Port}
use Rattle.meaning.specs.declared.Slot.{Slot}
use Rattle.meaning.specs.declared.Stream.{Stream}
use Rattle.meaning.specs.Refusals.{accepted}
use Rattle.meaning.specs.Desks.{Desk, bare, opened}
use Rattle.meaning.specs.Bytes.{Field, port_field, slot_field, stream_field, edit, fields_of, plan_octets}
use Rattle.meaning.specs.Plans.{AcceptedPlan, InWritersOrder}
use Rattle.meaning.proofs.Refusing.{accepted_is}
use Rattle.meaning.proofs.Conditions.{open_says, add_slot_says, add_stream_says}
use Rattle.meaning.proofs.Octets.{Octets}
use Rattle.meaning.proofs.Readings.{edit_all, edit_first}
use Rattle.meaning.proofs.ReadBack.{fields_fit}
use Rattle.meaning.proofs.Sounds.{chain_rises}
use Rattle.meaning.specs.Promises.{SoundDesk}
use Rattle.meaning.proofs.FieldRows.{made_joined, joined_made}
use Rattle.meaning.proofs.Edits.{edit_parts}
use Rattle.meaning.proofs.Accepted.{accepted_edits}

-- edits that place things by rising keys put each behind those already there
placed_behind : {A : Type 0} (field : A → Field) (desk : List A → Desk) (key : A → ℕ)
    → ((x : A) (xs : List A) (e : Desk) → edit (field x) (desk xs) ≡ accepted e → e ≡ desk (insert_by key x xs))
    → (rest before : List A) → RisingBy key (before ++ rest) → (e : Desk)
    → edit_all (map field rest) (desk before) ≡ accepted e → e ≡ desk (before ++ rest)
unfolding edit_all
placed_behind field desk key each [] before rises e q = accepted_is.0 q ∙ ap desk (sym (append-nil before))
placed_behind field desk key each (x ∷ rest) before rises e q =
    let (c, a, b) = edit_first (field x) (map field rest) (desk before) e q in
    let (_, _, less) = rising_parts key before (x ∷ rest) rises in
    let last = insert_last key x before (λ y m. omega (arith, less y x m (mem_head x rest))) in
    let behind : c ≡ desk (before ++ (x ∷ [])) = each x before c a ∙ ap desk last in
    placed_behind field desk key each rest (before ++ (x ∷ [])) (rw append_snoc rises) e (rw behind at b)
    ∙ ap desk (append_snoc before x rest)

-- so the desk holds what came, in the order in which it came
as_it_came : (p : Port) (ss : List Slot) (js : List Stream) → RisingBy (λ s. s.start) ss → RisingBy (λ j. j.id) js
    → (d : Desk) → edit_all (port_field p ∷ map slot_field ss ++ map stream_field js) bare ≡ accepted d
    → d ≡ opened p ss js
unfolding edit
as_it_came p ss js starts ids d q =
    let (c, a, b) = edit_first (port_field p) (map slot_field ss ++ map stream_field js) bare d q in
    let (_, e) = ((open_says p).accepts c).0 a in
    let (k, u, v) = edit_parts (map slot_field ss) (map stream_field js) (opened p [] []) d (rw e at b) in
    let slots : k ≡ opened p ss [] =
    placed_behind slot_field (λ l. opened p l []) (λ s. s.start)
    (λ s xs f h. (((add_slot_says s p xs []).accepts f).0 h).4) ss [] starts k u in
    placed_behind stream_field (λ l. opened p ss l) (λ j. j.id)
    (λ j xs f h. (((add_stream_says j p ss xs).accepts f).0 h).3) js [] ids d (rw slots at v)

-- demand 2: "An accepted plan in the writer's order is written back byte for byte."
pub written_back : (octets : List ℕ) (d : Desk) → Octets octets → InWritersOrder octets → AcceptedPlan octets d
    → plan_octets d ≡ octets
unfolding plan_octets fields_of
written_back octets d o w e =
    let fs = map slot_field w.slots ++ map stream_field w.streams in
    let q = (accepted_edits (port_field w.port) fs octets w.made_of d).0 e in
    rw (as_it_came w.port w.slots w.streams w.starts_rise w.ids_rise d q)
    (sym (made_joined (port_field w.port ∷ fs) octets o w.made_of).0)

-- what is written is in the writer's order
pub written_in_order : (p : Port) (ss : List Slot) (js : List Stream) → SoundDesk (opened p ss js)
    → InWritersOrder (plan_octets (opened p ss js))
unfolding plan_octets fields_of
written_in_order p ss js h =
    record {
      port = p;
      slots = ss;
      streams = js;
      starts_rise = chain_rises 0 p.cycle ss h.chain;
      ids_rise = h.ids_rise;
      made_of = joined_made (fields_of (opened p ss js)) (fields_fit p ss js h);
    }
