-- What document 01 says of plans, told of what `reader::read` and `writer::write` answer.
-- Assumes nothing.
use mathlib.Core.Path.{◌≡◌, refl, sym, ap, subst, ◌∙◌}
use mathlib.Core.Logic.Iff
use mathlib.Core.Logic.{◌↔◌, ◌⊎◌, ◌≢◌, by_cases}
use mathlib.Core.Bool.{Bool, true, false}
use mathlib.Core.List.{List, [], ◌∷◌, ◌++◌}
use Prim.Native.Nat.{ℕ, ◌+◌, ◌*◌, ◌≤◌, ◌<◌}
use native.Mathlib.Decide.{dec_le}
use native.Mathlib.Omega.{arith}
use lib.ListN.{length, take, drop}
use Rattle.std.specs.Prelude.{Ok, Err}
use Rattle.laws.specs.Lists.{joined, Mem}
use Rattle.meaning.specs.declared.Port.{Port}
use Rattle.meaning.specs.declared.Refusal.{Refusal}
use Rattle.meaning.specs.declared.Refusal.TheVariants.{OutOfTurn, NoRoom}
use Rattle.meaning.specs.Refusals.{Answer, accepted, refused, number_of}
use Rattle.meaning.specs.Desks.{bare, opened, edited, asked}
use Rattle.meaning.specs.Desks.{Desk as Plan}
use Rattle.meaning.specs.Promises.{SoundDesk}
use Rattle.meaning.specs.Bytes.{Field, port_field, field_octets, fields_of, edit, Outcome, read, refused_at, read_plan}
use Rattle.meaning.specs.Bytes.{desk_read, plan_octets, plan_length, write_plan, written, room_after}
use Rattle.meaning.specs.Plans.{MadeOf, AcceptedPlan, InWritersOrder, SameByTag}
use Rattle.meaning.proofs.Refusing.{accepted≢refused, accepted_is}
use Rattle.meaning.proofs.Octets.{Octets}
use Rattle.meaning.proofs.Fields.{FieldFits}
use Rattle.meaning.proofs.Plans.{plan_octets_length, write_accepted, room_front, room_untouched, write_says}
use Rattle.meaning.proofs.Readings.{edit_all, edit_first}
use Rattle.meaning.proofs.Accepted.{EmptyPlan, RefusedField, accepted_when, refused_when, accepted_edits}
use Rattle.meaning.proofs.Accepted.{accepted_sound, accepted_short}
use Rattle.meaning.proofs.ReadBack.{written_reads_back}
use Rattle.meaning.proofs.WritersOrder.{written_back}
use Rattle.meaning.proofs.Cuts.{cut_same, cut_met}
use Rattle.meaning.proofs.Mixing.{mixed_plans, mixed_octets}
use Rattle.answers.specs.Answers.{answer_number}
use Rattle.desk.specs.declared.Desk.{Desk}
use Rattle.desk.specs.declared.Reply.{Reply}
use Rattle.desk.specs.Desks.{desk_of, held, Fit, edit_reply}
use Rattle.desk.proofs.Held.{held_of, held_bare, fit_of, no_second_reply}
use Rattle.reader.specs.declared.RefusedAt.{RefusedAt}
use Rattle.reader.specs.declared.ReadReply.{ReadReply}
use Rattle.reader.specs.Reading.{read_reply}
use Rattle.writer.specs.Writing.{write_reply}
use Rattle.writer.proofs.Writes.{length_in, Writes, length_of, write_closed, write_no_room, write_open}

-- ---- what the two calls answer, by their contracts

-- a refusal and its place
abbrev at_place : Refusal → ℕ → RefusedAt
at_place why place = record { why = why; place = place }

abbrev pub read_of : List ℕ → ReadReply
read_of octets = read_reply (read_plan octets)

abbrev pub write_of : Desk → List ℕ → Reply ℕ
write_of d room = write_reply (asked (held d) (written (write_plan room (held d))))

-- what `write` leaves in the room
abbrev pub left_in : Desk → List ℕ → List ℕ
left_in d room = room_after room (write_plan room (held d))

-- the octets are read as this desk
abbrev pub ReadAs : List ℕ → Desk → Type 0
ReadAs octets d = read_of octets ≡ record { answer = Ok tt; desk = d }

-- n octets of this desk are written
abbrev pub WroteOf : Desk → List ℕ → ℕ → Type 0
WroteOf d room n = write_of d room ≡ record { answer = Ok n; desk = d }

-- nothing is written of it, for this reason
abbrev pub WriteRefused : Desk → List ℕ → Refusal → Type 0
WriteRefused d room why = write_of d room ≡ record { answer = Err why; desk = d }

-- ---- no second reply

-- of reading
pub read_one_reply : (octets : List ℕ) (r s : ReadReply) → r ≡ read_of octets → s ≡ read_of octets → r ≡ s
read_one_reply octets r s a b = no_second_reply a b

-- of writing, with what is left in the room
pub write_one_reply : (d : Desk) (room : List ℕ) (r s : Reply ℕ) (after other : List ℕ) → Writes d room r after
    → Writes d room s other → (r ≡ s) × (after ≡ other)
write_one_reply d room r s after other (a, b, _) (c, e, _) = (no_second_reply a c, no_second_reply b e)

-- ---- accepted plans

accepted_reads : (octets : List ℕ) (d : Desk) (e : Plan) → d ≡ desk_of e → AcceptedPlan octets e → ReadAs octets d
unfolding desk_read
accepted_reads octets d e s q = ap read_reply q ∙ (λ i. record { answer = Ok tt; desk = sym s i })

-- a plan is read as a desk exactly where document 01 accepts it with the desk held
pub read_as : (octets : List ℕ) (d : Desk) → ReadAs octets d ↔ (Fit d × AcceptedPlan octets (held d))
unfolding desk_read
read_as octets d = (to (read_plan octets) refl, λ (f, q). accepted_reads octets d (held d) f.canonical q)
  where
    to : (o : Outcome) → read_plan octets ≡ o → read_reply o ≡ record { answer = Ok tt; desk = d }
        → Fit d × AcceptedPlan octets (held d)
    to (read e) q r =
        let same : desk_of e ≡ d = ap (λ (x : ReadReply). x.desk) r in
        let holds : e ≡ held d = sym (held_of e) ∙ ap held same in
        (subst Fit same (fit_of e (accepted_sound octets e q)), q ∙ ap read holds)
    to (refused_at why place) q r =
        let e = ap (λ (x : ReadReply). x.answer) r in
        let z : ◌≡◌ {A = ℕ} 0 1 = cc in
        absurd (omega arith)

-- an accepted plan has at most 1,648 octets
pub read_at_most : (octets : List ℕ) (d : Desk) → ReadAs octets d → length octets ≤ 1_648
read_at_most octets d r = accepted_short octets (held d) ((read_as octets d).0 r).1

-- ---- an input over 4,096 octets

-- reading its first 4,096 gives the same reply
pub read_first_4096 : (octets : List ℕ) → read_of (take 4_096 octets) ≡ read_of octets
read_first_4096 octets = ap read_reply (cut_same octets)

-- which is a refusal, at a field that starts within the longest plan, and never for its end
pub read_long : (octets : List ℕ) → 4_096 < length octets
    → (why : Refusal) × (place : ℕ)
    × (read_of octets ≡ record { answer = Err (at_place why place); desk = desk_of bare })
    × (place ≤ 1_648) × (number_of why ≢ 1)
unfolding desk_read
read_long octets h =
    let (why, place, _, q, low, whole) = cut_met octets h in
    (why, place, ap read_reply q, low, whole)

-- ---- reading and the desk's edits

-- the reply of an accepted call
abbrev accepting : Desk → Reply (Unit {0})
accepting d = record { answer = Ok tt; desk = d }

-- the calls that the fields name, each accepted, lead from one desk to the other
abbrev pub CallsTo : List Field → Desk → Desk → Type 0
CallsTo [] d e = d ≡ e
CallsTo (f ∷ fs) d e = (c : Desk) × (edit_reply (edited (held d) (edit f (held d))) ≡ accepting c) × CallsTo fs c e

edits_calls : (fs : List Field) (e g : Plan) → edit_all fs e ≡ accepted g → CallsTo fs (desk_of e) (desk_of g)
unfolding edit_all edited
edits_calls [] e g q = ap desk_of (sym (accepted_is.0 q))
edits_calls (f ∷ fs) e g q =
    let (c, a, b) = edit_first f fs e g q in
    (desk_of c, rw (held_of e, a), edits_calls fs c g b)

-- what an accepted call made
call_made : (f : Field) (e : Plan) (c : Desk) → edit_reply (edited e (edit f e)) ≡ accepting c
    → (h : Plan) × (edit f e ≡ accepted h) × (c ≡ desk_of h)
unfolding edited
call_made f e c = go (edit f e)
  where
    go : (x : Answer Plan) → edit_reply (edited e x) ≡ accepting c → (h : Plan) × (x ≡ accepted h) × (c ≡ desk_of h)
    go (accepted h) r = (h, refl, sym (ap (λ (y : Reply (Unit {0})). y.desk) r))
    go (refused why) r =
        let v = ap (λ (y : Reply (Unit {0})). y.answer) r in
        let z : ◌≡◌ {A = ℕ} 0 1 = cc in
        absurd (omega arith)

calls_edits : (fs : List Field) (e : Plan) (d : Desk) → CallsTo fs (desk_of e) d
    → (g : Plan) × (d ≡ desk_of g) × (edit_all fs e ≡ accepted g)
unfolding edit_all
calls_edits [] e d q = (e, sym q, refl)
calls_edits (f ∷ fs) e d (c, a, b) =
    let (h, q, s) = call_made f e c (rw (held_of e) at a) in
    rw q (calls_edits fs h d (rw s at b))

-- reading a plan is making the edits of its fields, one by one, from the bare desk
pub read_calls : (octets : List ℕ) (d : Desk)
    → ReadAs octets d ↔ ((0 < length octets) × (fs : List Field) × MadeOf octets fs × CallsTo fs (desk_of bare) d)
read_calls octets d = (
  λ r.
      let (f, e) = (read_as octets d).0 r in
      let (h, fs, m, q) = (accepted_when octets (held d)).0 e in
      (h, fs, m, subst (CallsTo fs (desk_of bare)) (sym f.canonical) (edits_calls fs bare (held d) q)),
  λ (h, fs, m, k).
      let (g, s, q) = calls_edits fs bare d k in
      accepted_reads octets d g s ((accepted_when octets g).1 (h, fs, m, q)),
)

-- of a plan whose fields are known
pub read_calls_of : (f : Field) (fs : List Field) (octets : List ℕ) → MadeOf octets (f ∷ fs) → (d : Desk)
    → ReadAs octets d ↔ CallsTo (f ∷ fs) (desk_of bare) d
read_calls_of f fs octets m d = (
  λ r.
      let (g, e) = (read_as octets d).0 r in
      subst (CallsTo (f ∷ fs) (desk_of bare)) (sym g.canonical)
      (edits_calls (f ∷ fs) bare (held d) ((accepted_edits f fs octets m (held d)).0 e)),
  λ k.
      let (g, s, q) = calls_edits (f ∷ fs) bare d k in
      accepted_reads octets d g s ((accepted_edits f fs octets m g).1 q),
)

-- a plan is refused exactly where it is empty, or a field is refused behind edits that are accepted, at that field
pub read_refused : (octets : List ℕ) (why : Refusal) (place : ℕ)
    → (read_of octets ≡ record { answer = Err (at_place why place); desk = desk_of bare })
    ↔ (EmptyPlan octets why place ⊎ RefusedField octets why place)
unfolding desk_read
read_refused octets why place = Iff.trans (to (read_plan octets), ap read_reply) (refused_when octets why place)
  where
    to : (o : Outcome) → read_reply o ≡ record { answer = Err (at_place why place); desk = desk_of bare }
        → o ≡ refused_at why place
    to (read e) r =
        let v = ap (λ (x : ReadReply). x.answer) r in
        let z : ◌≡◌ {A = ℕ} 0 1 = cc in
        absurd (omega arith)
    to (refused_at w p) r =
        let v = ap (λ (x : ReadReply). x.answer) r in
        let x : ◌≡◌ {A = RefusedAt} (at_place w p) (at_place why place) = cc in
        λ i. refused_at (x i).why (x i).place

-- ---- slots and streams that come mixed

-- what is accepted, and the desk it gives, do not depend on how they are mixed
pub read_mixed : (p : Port) (fs gs : List Field) → SameByTag fs gs → (xs ys : List ℕ)
    → MadeOf xs (port_field p ∷ fs) → MadeOf ys (port_field p ∷ gs) → (d : Desk) → ReadAs xs d ↔ ReadAs ys d
read_mixed p fs gs same xs ys a b d =
    let (to, from) = mixed_plans p fs gs same xs ys a b (held d) in (
      λ r. let (f, e) = (read_as xs d).0 r in (read_as ys d).1 (f, to e),
      λ r. let (f, e) = (read_as ys d).0 r in (read_as xs d).1 (f, from e),
    )

-- so of the octets of fields whose numbers fit
pub read_mixed_octets : (p : Port) (fs gs : List Field) → SameByTag fs gs
    → ((f : Field) → Mem f (port_field p ∷ fs) → FieldFits f) → (d : Desk)
    → ReadAs (joined field_octets (port_field p ∷ fs)) d ↔ ReadAs (joined field_octets (port_field p ∷ gs)) d
read_mixed_octets p fs gs same fit d =
    let (to, from) = mixed_octets p fs gs same fit (held d) in (
      λ r. let (f, e) = (read_as _ d).0 r in (read_as _ d).1 (f, to e),
      λ r. let (f, e) = (read_as _ d).0 r in (read_as _ d).1 (f, from e),
    )

-- ---- what is written

-- a count is answered for octets that document 01 writes
wrote : (d : Desk) (room : List ℕ) (n : ℕ) → WroteOf d room n
    → (write_plan room (held d) ≡ accepted (plan_octets (held d))) × (n ≡ plan_length (held d))
    × (plan_length (held d) ≤ length room)
unfolding asked written
wrote d room n = go (write_plan room (held d)) refl
  where
    go : (a : Answer (List ℕ)) → write_plan room (held d) ≡ a
        → write_reply (asked (held d) (written a)) ≡ record { answer = Ok n; desk = d }
        → (write_plan room (held d) ≡ accepted (plan_octets (held d))) × (n ≡ plan_length (held d))
        × (plan_length (held d) ≤ length room)
    go (refused why) q r =
        let v = ap (λ (x : Reply ℕ). x.answer) r in
        let z : ◌≡◌ {A = ℕ} 0 1 = cc in
        absurd (omega arith)
    go (accepted octets) q r =
        let v = ap (λ (x : Reply ℕ). x.answer) r in
        let long : length octets ≡ n = cc in
        let (fits, e) = write_accepted room (held d) octets q in
        (q ∙ ap accepted e, sym long ∙ ap length e ∙ plan_octets_length (held d), fits)

module _ (d : Desk) (f : Fit d) (room : List ℕ) where
  -- a desk is written exactly where its port is open and the room has the octets of PORT, its slots and its streams
  pub written_when : (n : ℕ) → WroteOf d room n
      ↔ ((d.opened ≡ true) × (n ≡ 16 + 11 * d.nslots + 20 * d.nstreams) × (n ≤ length room))
  unfolding write_plan
  written_when n = (
    λ w.
        let (q, e, fits) = wrote d room n w in
        let o = open_one d.opened refl q in
        (o, e ∙ length_of d f o, omega arith),
    λ (o, e, l). rw e (sym (write_open d f room o (rw e at l) _ refl).0),
  )
    where
      open_one : (b : Bool) → d.opened ≡ b → write_plan room (held d) ≡ accepted (plan_octets (held d))
          → d.opened ≡ true
      open_one true o q = o
      open_one false o q = absurd (accepted≢refused (sym q ∙ ap (write_plan room) (held_bare d o)))

  -- what is written reads back as the same desk
  pub written_reads : (n : ℕ) → WroteOf d room n → ReadAs (take n (left_in d room)) d
  unfolding write_plan
  written_reads n w =
      let (q, e, _) = wrote d room n w in
      let front : take n (left_in d room) ≡ plan_octets (held d) = rw e (room_front room (held d) _ q) in
      (read_as _ d).1 (f, ap read_plan front ∙ back (held d) f.sound q)
    where
      back : (e : Plan) → SoundDesk e → write_plan room e ≡ accepted (plan_octets e) → read_plan (plan_octets e)
          ≡ read e
      back bare s q = absurd (accepted≢refused (sym q))
      back (opened p ss js) s q = written_reads_back p ss js s

  -- so of every open desk, in any room that is long enough
  pub open_reads_back : d.opened ≡ true → length_in d ≤ length room
      → WroteOf d room (length_in d) × ReadAs (take (length_in d) (left_in d room)) d
  open_reads_back o l =
      let w = (written_when (length_in d)).1 (o, refl, l) in
      (w, written_reads (length_in d) w)

  -- ---- what is refused

  -- two replies with two numbers are not one
  numbered_apart : (r s : Reply ℕ) → answer_number r.answer ≢ answer_number s.answer → r ≡ write_of d room
      → ¬ (write_of d room ≡ s)
  numbered_apart r s ne a b = ne (ap (λ (x : Reply ℕ). answer_number x.answer) (a ∙ b))

  -- the desk is bare; or it is open, and the room too short or long enough
  by_room : {X : Type 0} → (d.opened ≡ false → X) → (d.opened ≡ true → length room < length_in d → X)
      → (d.opened ≡ true → length_in d ≤ length room → X) → X
  by_room {X} closed short long = go d.opened refl
    where
      go : (b : Bool) → d.opened ≡ b → X
      go false o = closed o
      go true o = by_cases (dec_le (length_in d) (length room)) (long o) (λ l. short o (omega arith))

  -- 4 exactly where the desk is bare
  pub writes_4 : WriteRefused d room OutOfTurn ↔ (d.opened ≡ false)
  unfolding answer_number number_of
  writes_4 = (
    λ r.
        by_room (λ o. o)
        (λ o l. absurd (numbered_apart _ _ (λ e. omega arith) (write_no_room d f room o l).0 r))
        (λ o l. absurd (numbered_apart _ _ (λ e. omega arith) (write_open d f room o l _ refl).0 r)),
    λ o. sym (write_closed d f room o).0,
  )

  -- 11 exactly where it is open and the room is too short
  pub writes_11 : WriteRefused d room NoRoom ↔ ((d.opened ≡ true) × (length room < length_in d))
  unfolding answer_number number_of
  writes_11 = (
    λ r.
        by_room (λ o. absurd (numbered_apart _ _ (λ e. omega arith) (write_closed d f room o).0 r)) (λ o l. (o, l))
        (λ o l. absurd (numbered_apart _ _ (λ e. omega arith) (write_open d f room o l _ refl).0 r)),
    λ (o, l). sym (write_no_room d f room o l).0,
  )

  -- a refusal leaves every octet of the room as it was
  pub refused_room : (why : Refusal) → WriteRefused d room why → left_in d room ≡ room
  unfolding asked written
  refused_room why = go (write_plan room (held d)) refl
    where
      go : (a : Answer (List ℕ)) → write_plan room (held d) ≡ a
          → write_reply (asked (held d) (written a)) ≡ record { answer = Err why; desk = d } → left_in d room ≡ room
      go (refused w) q r = room_untouched room (held d) w q
      go (accepted octets) q r =
          let v = ap (λ (x : Reply ℕ). x.answer) r in
          let z : ◌≡◌ {A = ℕ} 0 1 = cc in
          absurd (omega arith)

-- ---- what is written back

-- octets of a desk that fit the room are written
writes : (room : List ℕ) (e : Plan) → 0 < length (plan_octets e) → length (plan_octets e) ≤ length room
    → write_plan room e ≡ accepted (plan_octets e)
unfolding plan_octets fields_of joined
writes room bare some fits = absurd (omega arith)
writes room (opened p ss js) some fits =
    ((write_says room p ss js).accepts (plan_octets (opened p ss js))).1
    (omega (arith, plan_octets_length (opened p ss js)), refl)

-- an accepted plan in the writer's order is written back byte for byte, and the octets behind it keep their value
pub written_again : (octets : List ℕ) (d : Desk) → Octets octets → InWritersOrder octets → ReadAs octets d
    → (room : List ℕ) → length octets ≤ length room
    → WroteOf d room (length octets) × (left_in d room ≡ octets ++ drop (length octets) room)
unfolding asked written room_after
written_again octets d o w r room fits =
    let (f, e) = (read_as octets d).0 r in
    let same : plan_octets (held d) ≡ octets = written_back octets (held d) o w e in
    let some = ((accepted_when octets (held d)).0 e).0 in
    let q : write_plan room (held d) ≡ accepted octets =
    rw same at (writes room (held d) (rw same some) (rw same fits)) in
    (rw q (λ i. record { answer = Ok (length octets); desk = sym f.canonical i }), rw q)
