-- The reader's walk: an edit of the field at a place is a step of it, and turn by turn it comes to the plan's end.
-- Assumes nothing.
use mathlib.Core.Path.{◌≡◌, refl, sym, ap, ◌∙◌}
use mathlib.Core.List.{List, []}
use Prim.Native.Nat.{ℕ, suc, ◌+◌, ◌≤◌, ◌<◌}
use native.Mathlib.Omega.{arith}
use lib.ListN.{length, drop, length-drop, drop_of_length-le}
use lib.Seq.{drop-drop}
use Rattle.std.specs.Prelude.{Result, Ok, Err}
use Rattle.meaning.specs.declared.Refusal.{Refusal}
use Rattle.meaning.specs.Refusals.{Answer, accepted, refused}
use Rattle.meaning.specs.Desks.{bare, edited}
use Rattle.meaning.specs.Desks.{Desk as Plan}
use Rattle.meaning.specs.Bytes.{Field, tag_of, value_length, field_length}
use Rattle.meaning.specs.Bytes.{front, edit}
use Rattle.meaning.specs.Bytes.{Reading, going, stopped, after_edit, after_front, step, walk}
use Rattle.meaning.specs.Bytes.{ended, read_plan, refused_at}
use Rattle.meaning.proofs.Fields.{front_takes}
use Rattle.meaning.proofs.Readings.{walk_stopped, walk_done, step_some, walk_enough}
use Rattle.entries.specs.declared.Entries.{Entries}
use Rattle.entries.specs.Entries.{held_in, entries_of, FitEntries, Edits}
use Rattle.entries.proofs.Opened.{held_of_entries}
use Rattle.fields.specs.declared.Field.{Field as Read}
use Rattle.fields.specs.declared.Field.TheVariants as case
use Rattle.fields.specs.Reading.{field_at, as_told}
use Rattle.fields.proofs.Fronts.{field_told}
use Rattle.reader.specs.declared.RefusedAt.{RefusedAt}
use Rattle.reader.specs.Reading.{octets_at, walked_to, walked_with, Walks, read_answer}

-- ---- one step

-- the octets of a field that is read
octets_of_lem : (f : Read) → octets_at f ≡ field_length (as_told f)
unfolding octets_at field_length value_length tag_of
octets_of_lem (case.Port p) = refl
octets_of_lem (case.Slot s) = refl
octets_of_lem (case.Stream j) = refl

-- what the step at a place is
seen : (at : ℕ) (plan : List ℕ) (es : Entries) → at < length plan
    → step (going at (drop at plan) (held_in es)) ≡ after_front at (drop at plan) (held_in es) (front (drop at plan))
seen at plan es h = step_some at (drop at plan) (held_in es) (omega (arith, length-drop at plan))

module _ (plan : List ℕ) (at : ℕ) (es : Entries) (h : at < length plan) (f : FitEntries es) where
  -- what the step is, by the field at the place
  looked : (a : Answer Field) → front (drop at plan) ≡ a
      → step (going at (drop at plan) (held_in es)) ≡ after_front at (drop at plan) (held_in es) a
  looked a e =
      seen at plan es h ∙ ap (after_front at (drop at plan) (held_in es)) e

  Step : Result ℕ RefusedAt → Entries → Type 0
  Step r made = Walks (held_in es) (step (going at (drop at plan) (held_in es))) r made

  -- no field that can be read
  pub walks_unread : (why : Refusal) → Err why ≡ field_at (front (drop at plan))
      → Walks (held_in es) (step (going at (drop at plan) (held_in es))) (Err (record { why = why; place = at })) es
  unfolding after_front walked_to walked_with
  walks_unread why e =
      rw (looked (refused why) (field_told (Err why) (front (drop at plan)) e))
      (record { answer = refl; entries = f.canonical; fit = f })

  module _ (g : Read) (e : Ok g ≡ field_at (front (drop at plan))) where
    here : front (drop at plan) ≡ accepted (as_told g)
    here = field_told (Ok g) (front (drop at plan)) e

    -- its octets lie within the plan
    pub octets_within : at + octets_at g ≤ length plan
    octets_within =
        omega (arith, octets_of_lem g, front_takes (drop at plan) (as_told g) here, length-drop at plan)

    -- its edit is refused
    pub walks_refused : (why : Refusal) (made : Entries)
        → Edits es (edit (as_told g) (held_in es)) (Err why) made
        → Walks (held_in es) (step (going at (drop at plan) (held_in es))) (Err (record { why = why; place = at }))
        made
    unfolding after_front after_edit edited walked_to walked_with
    walks_refused why made m = rw (looked (accepted (as_told g)) here) (go (edit (as_told g) (held_in es)) m)
      where
        go : (a : Answer Plan) → Edits es a (Err why) made
            → Walks (held_in es) (after_edit at (drop at plan) (as_told g) a) (Err (record { why = why; place = at }))
            made
        go (accepted x) m = let z = m.answer in cc
        go (refused r) m =
            let q = m.answer in record { answer = cc; entries = m.entries; fit = m.fit }

    -- its edit is accepted
    pub walks_accepted : (made : Entries) → Edits es (edit (as_told g) (held_in es)) (Ok tt) made
        → Walks (held_in es) (step (going at (drop at plan) (held_in es))) (Ok (at + octets_at g)) made
    unfolding after_front after_edit edited walked_to walked_with
    walks_accepted made m = rw (looked (accepted (as_told g)) here) (go (edit (as_told g) (held_in es)) m)
      where
        go : (a : Answer Plan) → Edits es a (Ok tt) made
            → Walks (held_in es) (after_edit at (drop at plan) (as_told g) a) (Ok (at + octets_at g)) made
        go (accepted x) m =
            record { answer = ap (λ (n : ℕ). Ok (at + n)) (octets_of_lem g); entries = m.entries; fit = m.fit }
        go (refused r) m = let z = m.answer in cc

-- ---- the walk from a place

module _ (plan : List ℕ) (at : ℕ) (es made : Entries) (h : at < length plan) where
  -- a step that answers a place: the walk goes on there
  pub went_on : (on : ℕ) → Walks (held_in es) (step (going at (drop at plan) (held_in es))) (Ok on) made
      → (at < on) × (step (going at (drop at plan) (held_in es)) ≡ going on (drop on plan) (held_in made))
  unfolding walked_to walked_with after_front after_edit field_length
  went_on on w =
      rw (seen at plan es h)
      (by_front (front (drop at plan)) (rw (seen at plan es h) at w.answer) (rw (seen at plan es h) at w.entries))
    where
      Goes : Reading → Type 0
      Goes s = (at < on) × (s ≡ going on (drop on plan) (held_in made))

      by_edit : (g : Field) (a : Answer Plan) → Ok on ≡ walked_to (after_edit at (drop at plan) g a)
          → made ≡ entries_of (walked_with (held_in es) (after_edit at (drop at plan) g a))
          → Goes (after_edit at (drop at plan) g a)
      by_edit g (accepted x) q k =
          let place : on ≡ at + field_length g = cc in
          let desk : held_in made ≡ x = ap held_in k ∙ held_of_entries x in
          (omega arith, rw (place, desk, drop-drop (field_length g) at plan))
      by_edit g (refused r) q k = cc

      by_front : (a : Answer Field) → Ok on ≡ walked_to (after_front at (drop at plan) (held_in es) a)
          → made ≡ entries_of (walked_with (held_in es) (after_front at (drop at plan) (held_in es) a))
          → Goes (after_front at (drop at plan) (held_in es) a)
      by_front (accepted g) q k = by_edit g (edit g (held_in es)) q k
      by_front (refused r) q k = cc

  -- a step that is refused: the walk stops, at this place
  pub went_no_further : (x : RefusedAt) → Walks (held_in es) (step (going at (drop at plan) (held_in es))) (Err x) made
      → (step (going at (drop at plan) (held_in es)) ≡ stopped x.why at) × (x.place ≡ at)
  unfolding walked_to after_front after_edit
  went_no_further x w =
      rw (seen at plan es h) (by_front (front (drop at plan)) (rw (seen at plan es h) at w.answer))
    where
      stops : (r : Refusal) → Err x ≡ walked_to (stopped r at) → (stopped r at ≡ stopped x.why at) × (x.place ≡ at)
      stops r q =
          let e : x ≡ record { why = r; place = at } = cc in
          (ap (λ (x : RefusedAt). stopped x.why at) (sym e), ap (λ (x : RefusedAt). x.place) e)

      by_edit : (g : Field) (a : Answer Plan) → Err x ≡ walked_to (after_edit at (drop at plan) g a)
          → (after_edit at (drop at plan) g a ≡ stopped x.why at) × (x.place ≡ at)
      by_edit g (accepted y) q = (cc, cc)
      by_edit g (refused r) q = stops r q

      by_front : (a : Answer Field) → Err x ≡ walked_to (after_front at (drop at plan) (held_in es) a)
          → (after_front at (drop at plan) (held_in es) a ≡ stopped x.why at) × (x.place ≡ at)
      by_front (accepted g) q = by_edit g (edit g (held_in es)) q
      by_front (refused r) q = stops r q

-- ---- turn by turn

-- what is left to read from a place decides what the plan gives
abbrev pub ReadsOn : List ℕ → ℕ → Plan → Type 0
ReadsOn plan at e = read_plan plan ≡ ended (walk (length plan) (going at (drop at plan) e))

pub read_start : (plan : List ℕ) → ReadsOn plan 0 bare
unfolding read_plan
read_start plan = refl

module _ (plan : List ℕ) (at : ℕ) (e : Plan) (reads : ReadsOn plan at e) where
  -- a step is one of those left
  read_step : (s : Reading) → step (going at (drop at plan) e) ≡ s → read_plan plan ≡ ended (walk (length plan) s)
  unfolding walk
  read_step s q =
      let n = length plan in
      let short : length (drop at plan) ≤ n = omega (arith, length-drop at plan) in
      reads
      ∙ ap ended (walk_enough n (suc n) at (drop at plan) e short (omega arith))
      ∙ ap (λ (s : Reading). ended (walk n s)) q

  pub read_turn : (on : ℕ) (x : Plan) → step (going at (drop at plan) e) ≡ going on (drop on plan) x
      → ReadsOn plan on x
  read_turn on x q = read_step _ q

  read_stops : (r : Refusal) → step (going at (drop at plan) e) ≡ stopped r at → read_plan plan ≡ refused_at r at
  unfolding ended
  read_stops r q = read_step _ q ∙ ap ended (walk_stopped (length plan) r at)

  -- the refusal x is what reading the plan answers
  pub read_refused : (x : RefusedAt) → step (going at (drop at plan) e) ≡ stopped x.why at → x.place ≡ at
      → Err x ≡ read_answer (read_plan plan)
  read_refused x q place =
      ap (λ (n : ℕ). Err (record { why = x.why; place = n })) place ∙ sym (ap read_answer (read_stops x.why q))

  pub read_ends : length plan ≤ at → read_plan plan ≡ ended (going at [] e)
  read_ends l =
      reads
      ∙ ap (λ (l : List ℕ). ended (walk (length plan) (going at l e))) (drop_of_length-le plan {i = at} l)
      ∙ ap ended (walk_done (length plan) at e)
