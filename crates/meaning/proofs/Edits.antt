-- The edits of fields: where they are accepted, the desk's plan and its soundness; where not, the numbers answered.
-- Assumes nothing.
use mathlib.Core.Path.{◌≡◌, refl, sym, ap, ◌∙◌}
use mathlib.Core.Bool.{true}
use mathlib.Core.List.Memᴰ
use mathlib.Core.List.{List, [], ◌∷◌, ◌++◌}
use Prim.Native.Nat.{ℕ, ◌+◌, ◌≤◌}
use native.Mathlib.Nat.{add-zero}
use native.Mathlib.Omega.{arith}
use lib.Dec.{eqb}
use borrow.Author.Tests.{eqb-true}
use Rattle.laws.specs.Lists.{any, every, total, Mem}
use Rattle.laws.proofs.Lists.{any_true, every_true}
use Rattle.laws.proofs.Inserting.{length_insert_by}
use Rattle.meaning.specs.declared.Port.{Port}
use Rattle.meaning.specs.declared.Slot.{Slot}
use Rattle.meaning.specs.declared.Stream.{Stream}
use Rattle.meaning.specs.declared.Refusal.{Refusal}
use Rattle.meaning.specs.Refusals.{number_of, Answer, accepted, refused}
use Rattle.meaning.specs.Desks.{Desk, bare, opened}
use Rattle.meaning.specs.Calls.{with_slot, with_stream, open_port, add_slot, add_stream}
use Rattle.meaning.specs.Promises.{SoundDesk}
use Rattle.meaning.specs.Bytes.{Field, port_field, slot_field, stream_field, tag_of, value_length, field_length}
use Rattle.meaning.specs.Bytes.{edit, fields_of, plan_length}
use Rattle.meaning.proofs.Refusing.{number_in, accepted≢refused, accepted_is}
use Rattle.meaning.proofs.Conditions.{open_says, add_slot_says, add_stream_says}
use Rattle.meaning.proofs.Sounds.{sound_bare, open_sound, add_slot_sound, add_stream_sound}
use Rattle.meaning.proofs.Plans.{plan_length_lem, plan_at_most}
use Rattle.meaning.proofs.Readings.{and_then, edit_all, edit_first, edit_append}

-- ---- edits in two parts

-- edits that are accepted: the first ones are, and the others on their desk
pub edit_parts : (fs gs : List Field) (d e : Desk) → edit_all (fs ++ gs) d ≡ accepted e
    → (c : Desk) × (edit_all fs d ≡ accepted c) × (edit_all gs c ≡ accepted e)
edit_parts fs gs d e q = go (edit_all fs d) refl (sym (edit_append fs gs d) ∙ q)
  where
    go : (a : Answer Desk) → edit_all fs d ≡ a → and_then a (edit_all gs) ≡ accepted e
        → (c : Desk) × (edit_all fs d ≡ accepted c) × (edit_all gs c ≡ accepted e)
    go (accepted c) a b = (c, a, b)
    go (refused r) a b = absurd (accepted≢refused (sym b))

-- ---- the length of the desk's plan

pub bare_length : plan_length bare ≡ 0
unfolding plan_length fields_of total
bare_length = refl

-- an accepted edit makes the desk's plan longer by its field
pub edit_length : (f : Field) (d e : Desk) → edit f d ≡ accepted e → plan_length e ≡ plan_length d + field_length f
unfolding edit open_port add_slot add_stream field_length value_length tag_of
edit_length (port_field p) bare e q =
    let (_, w) = ((open_says p).accepts e).0 q in
    rw w (omega (arith, bare_length, plan_length_lem p [] []))
edit_length (slot_field s) (opened p ss js) e q =
    let (_, _, _, _, w) = ((add_slot_says s p ss js).accepts e).0 q in
    rw w
    (omega (
      arith,
      plan_length_lem p ss js,
      plan_length_lem p (with_slot s ss) js,
      length_insert_by (λ (x : Slot). x.start) s ss,
    ))
edit_length (stream_field j) (opened p ss js) e q =
    let (_, _, _, w) = ((add_stream_says j p ss js).accepts e).0 q in
    rw w
    (omega (
      arith,
      plan_length_lem p ss js,
      plan_length_lem p ss (with_stream j js),
      length_insert_by (λ (x : Stream). x.id) j js,
    ))
edit_length (port_field p) (opened q ss js) e a = absurd (accepted≢refused (sym a))
edit_length (slot_field s) bare e q = absurd (accepted≢refused (sym q))
edit_length (stream_field j) bare e q = absurd (accepted≢refused (sym q))

edits_length : (fs : List Field) (d e : Desk) → edit_all fs d ≡ accepted e
    → plan_length e ≡ plan_length d + total field_length fs
unfolding edit_all total
edits_length [] d e q = rw (add-zero (plan_length d)) (ap plan_length (accepted_is.0 q))
edits_length (f ∷ fs) d e q =
    let (c, a, b) = edit_first f fs d e q in
    omega (arith, edit_length f d c a, edits_length fs c e b)

-- so after an accepted edit the desk is open
pub edit_opens : (f : Field) (fs : List Field) (d e : Desk) → edit_all (f ∷ fs) d ≡ accepted e
    → (p : Port) × (ss : List Slot) × (js : List Stream) × (edit f d ≡ accepted (opened p ss js))
    × (edit_all fs (opened p ss js) ≡ accepted e)
unfolding field_length
edit_opens f fs d e q = let (c, a, b) = edit_first f fs d e q in go c a b
  where
    go : (c : Desk) → edit f d ≡ accepted c → edit_all fs c ≡ accepted e
        → (p : Port) × (ss : List Slot) × (js : List Stream) × (edit f d ≡ accepted (opened p ss js))
        × (edit_all fs (opened p ss js) ≡ accepted e)
    go bare a b = absurd (omega (arith, bare_length, edit_length f d bare a))
    go (opened p ss js) a b = (p, ss, js, a, b)

-- ---- sound desks

edit_sound : (f : Field) (d e : Desk) → SoundDesk d → edit f d ≡ accepted e → SoundDesk e
unfolding edit
edit_sound (port_field p) d e h q = open_sound p d e h q
edit_sound (slot_field s) d e h q = add_slot_sound s d e h q
edit_sound (stream_field j) d e h q = add_stream_sound j d e h q

pub edits_sound : (fs : List Field) (d e : Desk) → SoundDesk d → edit_all fs d ≡ accepted e → SoundDesk e
unfolding edit_all
edits_sound [] d e h q = rw (accepted_is.0 q) h
edits_sound (f ∷ fs) d e h q =
    let (c, a, b) = edit_first f fs d e q in
    edits_sound fs c e (edit_sound f d c h a) b

-- ---- from the bare desk

-- the fields edited in are as long as the desk's plan
pub edits_plan : (fs : List Field) (e : Desk) → edit_all fs bare ≡ accepted e → plan_length e ≡ total field_length fs
edits_plan fs e q = omega (arith, bare_length, edits_length fs bare e q)

-- and at most 1,648 octets
pub edits_short : (fs : List Field) (e : Desk) → edit_all fs bare ≡ accepted e → total field_length fs ≤ 1_648
edits_short fs e q = omega (arith, edits_plan fs e q, go e (edits_sound fs bare e sound_bare q))
  where
    go : (d : Desk) → SoundDesk d → plan_length d ≤ 1_648
    go bare h = omega (arith, bare_length)
    go (opened p ss js) h = plan_at_most p ss js h.few_slots h.few_streams

-- ---- the numbers of a refused edit

-- a number of xs is one of ys, where all of xs are
pub among_these : (xs ys : List ℕ) → every (λ x. any (eqb x) ys) xs ≡ true → (n : ℕ) → Mem n xs → Mem n ys
among_these xs ys h n m =
    let (y, k, e) = (any_true (eqb n) ys).0 ((every_true (λ x. any (eqb x) ys) xs).0 h n m) in
    Memᴰ.cast (eqb-true n y e) k

-- an edit answers only 4 to 8 and 10
pub edit_numbers : (f : Field) (d : Desk) (r : Refusal) → edit f d ≡ refused r
    → Mem (number_of r) (4 ∷ 5 ∷ 6 ∷ 7 ∷ 8 ∷ 10 ∷ [])
unfolding edit open_port add_slot add_stream number_of any every
edit_numbers (port_field p) bare r e = among_these _ _ refl (number_of r) ((open_says p).only r e)
edit_numbers (slot_field s) (opened p ss js) r e = among_these _ _ refl (number_of r)
    ((add_slot_says s p ss js).only r e)
edit_numbers (stream_field j) (opened p ss js) r e =
    among_these _ _ refl (number_of r) ((add_stream_says j p ss js).only r e)
edit_numbers (port_field p) (opened q ss js) r e = Memᴰ.head (sym (ap number_in e))
edit_numbers (slot_field s) bare r e = Memᴰ.head (sym (ap number_in e))
edit_numbers (stream_field j) bare r e = Memᴰ.head (sym (ap number_in e))
