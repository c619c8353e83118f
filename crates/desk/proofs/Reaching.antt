-- Every desk that calls reach is fit, and demand 3 holds of it where it is open.
-- Assumes nothing.
use mathlib.Core.Path.{◌≡◌, refl, sym, ap, subst, ◌∙◌}
use mathlib.Core.Bool.{true}
use mathlib.Core.List.{List, [], ◌∷◌, ◌++◌, map}
use Prim.Native.Nat.{ℕ}
use Rattle.meaning.specs.Refusals.{Answer, accepted, refused}
use Rattle.meaning.specs.Desks.{bare, edited, asked}
use Rattle.meaning.specs.Desks.{Desk as Plan}
use Rattle.meaning.specs.Promises.{SoundDesk}
use Rattle.meaning.specs.Bytes.{Field, port_field, slot_field, stream_field, edit, Outcome, read, refused_at, read_plan}
use Rattle.meaning.specs.Bytes.{desk_read}
use Rattle.meaning.proofs.Refusing.{accepted_is}
use Rattle.meaning.proofs.Sounds.{sound_bare, open_sound, add_slot_sound, remove_slot_sound, add_stream_sound}
use Rattle.meaning.proofs.Sounds.{remove_stream_sound}
use Rattle.meaning.proofs.Readings.{edit_all, edit_first}
use Rattle.meaning.proofs.Accepted.{accepted_when}
use Rattle.desk.specs.declared.Desk.{Desk}
use Rattle.desk.specs.declared.Reply.{Reply}
use Rattle.desk.specs.Desks.{desk_of, held, Fit, edit_reply}
use Rattle.desk.specs.Reach.{Call, opening, adding_slot, removing_slot, adding_stream, removing_stream, made, after}
use Rattle.desk.specs.Reach.{after_all, Reached, DemandThreeHolds}
use Rattle.desk.proofs.Held.{held_of, fit_of}
use Rattle.desk.proofs.OpenFits.{fit_demand_three}

-- ---- sound desks

-- the desk that an accepted call makes
made_sound : (c : Call) (e f : Plan) → SoundDesk e → made c e ≡ accepted f → SoundDesk f
made_sound (opening p) e f h q = open_sound p e f h q
made_sound (adding_slot s) e f h q = add_slot_sound s e f h q
made_sound (removing_slot start) e f h q = remove_slot_sound start e f h q
made_sound (adding_stream j) e f h q = add_stream_sound j e f h q
made_sound (removing_stream id) e f h q = remove_stream_sound id e f h q

-- the desk that a call hands back, accepted or refused
after_sound : (c : Call) (e : Plan) → SoundDesk e → SoundDesk (after c e)
unfolding after edited
after_sound c e h = go (made c e) refl
  where
    go : (a : Answer Plan) → made c e ≡ a → SoundDesk (edited e a).desk
    go (accepted f) q = made_sound c e f h q
    go (refused r) q = h

after_all_sound : (cs : List Call) (e : Plan) → SoundDesk e → SoundDesk (after_all cs e)
unfolding after_all
after_all_sound [] e h = h
after_all_sound (c ∷ cs) e h = after_all_sound cs (after c e) (after_sound c e h)

-- ---- desks that calls reach

pub reached_bare : Reached (desk_of bare)
unfolding after_all
reached_bare = ([], refl)

-- "every desk handed back is proved fit for the next call"
pub reached_fit : (d : Desk) → Reached d → Fit d
reached_fit d (cs, q) = subst Fit (sym q) (fit_of (after_all cs bare) (after_all_sound cs bare sound_bare))

-- one call more behind the others
after_last : (cs : List Call) (c : Call) (e : Plan) → after_all (cs ++ c ∷ []) e ≡ after c (after_all cs e)
unfolding after_all
after_last [] c e = refl
after_last (b ∷ cs) c e = after_last cs c (after b e)

-- what any edit hands back on a desk that is reached, accepted or refused
pub reached_edit : (c : Call) (d : Desk) (r : Reply (Unit {0})) → Reached d
    → r ≡ edit_reply (edited (held d) (made c (held d))) → Reached r.desk
unfolding after
reached_edit c d r (cs, q) e = (
  cs ++ c ∷ [],
  ap (λ (x : Reply (Unit {0})). x.desk) e
      ∙ ap (λ (x : Plan). desk_of (after c x)) (ap held q ∙ held_of (after_all cs bare))
      ∙ ap desk_of (sym (after_last cs c bare)),
)

-- and what any question hands back, whatever it answers: the desk that it was given
pub reached_question : {A : Type 0} (a : Answer A) (d e : Desk) → Reached d → e ≡ desk_of (asked (held d) a).desk
    → Reached e
unfolding asked
reached_question a d e r q = subst Reached ((reached_fit d r).canonical ∙ sym q) r

-- ---- the desk that a reading makes of the bare one

-- the call that a field names
abbrev named_by : Field → Call
named_by (port_field p) = opening p
named_by (slot_field s) = adding_slot s
named_by (stream_field j) = adding_stream j

accepted_after : (c : Call) (d e : Plan) → made c d ≡ accepted e → after c d ≡ e
unfolding after edited
accepted_after c d e q = ap (λ (a : Answer Plan). (edited d a).desk) q

named_after : (f : Field) (d e : Plan) → edit f d ≡ accepted e → after (named_by f) d ≡ e
unfolding edit
named_after (port_field p) d e q = accepted_after (opening p) d e q
named_after (slot_field s) d e q = accepted_after (adding_slot s) d e q
named_after (stream_field j) d e q = accepted_after (adding_stream j) d e q

edits_are_calls : (fs : List Field) (d e : Plan) → edit_all fs d ≡ accepted e → after_all (map named_by fs) d ≡ e
unfolding edit_all after_all
edits_are_calls [] d e q = sym (accepted_is.0 q)
edits_are_calls (f ∷ fs) d e q =
    let (c, a, b) = edit_first f fs d e q in
    ap (after_all (map named_by fs)) (named_after f d c a) ∙ edits_are_calls fs c e b

-- whatever the octets
pub reached_read : (octets : List ℕ) → Reached (desk_of (desk_read (read_plan octets)))
unfolding desk_read
reached_read octets = go (read_plan octets) refl
  where
    go : (o : Outcome) → read_plan octets ≡ o → Reached (desk_of (desk_read o))
    go (read e) q =
        let (_, fs, _, a) = (accepted_when octets e).0 q in
        (map named_by fs, ap desk_of (sym (edits_are_calls fs bare e a)))
    go (refused_at r place) q = reached_bare

-- ---- demand 3, after any sequence of calls

pub demand_three_of_desk : (d : Desk) → Reached d → d.opened ≡ true → DemandThreeHolds d
demand_three_of_desk d r o = fit_demand_three d (reached_fit d r) o
