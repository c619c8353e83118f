-- Reading a plan is making the edits of its fields one by one: what an accepted and what a refused reading is.
-- Assumes nothing.
use mathlib.Core.Path.{◌≡◌, refl, sym, ap, subst₂, ◌∙◌}
use mathlib.Core.Logic.{◌↔◌, ◌⊎◌, inl, inr, ⊎_elim}
use mathlib.Core.List.Memᴰ
use mathlib.Core.List.{List, [], ◌∷◌}
use Prim.Native.Nat.{ℕ, zero, suc, ◌+◌, ◌≤◌, ◌<◌}
use native.Mathlib.Nat.{add-zero, zero-add, add_assoc, le_refl}
use native.Mathlib.Omega.{arith}
use lib.ListN.{length, drop, length-drop, drop_of_length-le}
use Rattle.laws.specs.Lists.{any, every, total, joined, Mem}
use Rattle.meaning.specs.declared.Refusal.{Refusal}
use Rattle.meaning.specs.declared.Refusal.TheVariants.{OutOfTurn}
use Rattle.meaning.specs.Refusals.{number_of, Answer, accepted, refused}
use Rattle.meaning.specs.Desks.{Desk, bare, opened}
use Rattle.meaning.specs.Promises.{SoundDesk}
use Rattle.meaning.specs.Bytes.{Field, field_length, field_octets, front, edit, going, stopped, after_edit}
use Rattle.meaning.specs.Bytes.{after_front, step, walk, Outcome, read, refused_at, ended, read_plan, desk_read}
use Rattle.meaning.specs.Plans.{Begins, MadeOf, AcceptedPlan}
-- for the order of the check alone: the instances come before every law, so that a wrong definition is refused there
use Rattle.meaning.proofs.Instances.{small_gate}
use Rattle.meaning.proofs.CallInstances.{first_decides}
use Rattle.meaning.proofs.Sounds.{sound_bare}
use Rattle.meaning.proofs.Plans.{plan_length_lem}
use Rattle.meaning.proofs.Octets.{Octets}
use Rattle.meaning.proofs.Fields.{FieldFits, front_says, front_takes}
use Rattle.meaning.proofs.FieldRows.{begins_length, made_joined, made_of_unique}
use Rattle.meaning.proofs.Edits.{among_these, edit_numbers, bare_length, edits_plan, edits_sound, edits_short}
use Rattle.meaning.proofs.Readings.{walk_stopped, walk_done, walk_add, walk_enough, step_some, edit_all}
use Rattle.meaning.proofs.Readings.{edit_first}

-- ---- the walk over fields whose edits are accepted

walk_begins : (fs : List Field) (octets rest : List ℕ) → Begins octets fs rest → (d e : Desk)
    → edit_all fs d ≡ accepted e → (place : ℕ)
    → walk (length fs) (going place octets d) ≡ going (place + total field_length fs) rest e
unfolding walk total edit_all after_front after_edit field_length
walk_begins [] octets rest b d e q place = rw (add-zero place) (cc)
walk_begins (f ∷ fs) octets rest (a, b) d e q place =
    let (c, u, v) = edit_first f fs d e q in
    ap (walk (length fs)) (step_some place octets d (omega (arith, front_takes octets f a)) ∙ rw (a, u))
    ∙ walk_begins fs (drop (field_length f) octets) rest b c e v (place + field_length f)
    ∙ ap (λ (n : ℕ). going n rest e) (add_assoc place (field_length f) (total field_length fs))

-- then the rest decides
rest_decides : (fs : List Field) (octets rest : List ℕ) → Begins octets fs rest → (e : Desk)
    → edit_all fs bare ≡ accepted e
    → read_plan octets ≡ ended (walk (length octets) (going (total field_length fs) rest e))
unfolding read_plan
rest_decides fs octets rest b e q =
    let n = length octets in
    ap ended
    (walk_enough n (length fs + n) 0 octets bare (le_refl n) (omega arith)
    ∙ walk_add (length fs) n (going 0 octets bare)
    ∙ ap (walk n) (rw zero-add at (walk_begins fs octets rest b bare e q 0)))

-- on this desk the field at the front is refused, for its octets or by its edit
abbrev pub FrontRefused : List ℕ → Desk → Refusal → Type 0
FrontRefused octets d r =
    (0 < length octets)
    × ((front octets ≡ refused r) ⊎ ((f : Field) × (front octets ≡ accepted f) × (edit f d ≡ refused r)))

step_refuses : (octets : List ℕ) (d : Desk) (r : Refusal) → FrontRefused octets d r → (place : ℕ)
    → step (going place octets d) ≡ stopped r place
unfolding after_front after_edit
step_refuses octets d r (h, w) place =
    step_some place octets d h ∙ ⊎_elim (λ e. rw e) (λ (f, e, q). rw (e, q)) w

walk_refuses : (n : ℕ) (octets : List ℕ) (d : Desk) (r : Refusal) → FrontRefused octets d r → 0 < n → (place : ℕ)
    → walk n (going place octets d) ≡ stopped r place
unfolding walk
walk_refuses zero octets d r w h place = absurd (omega arith)
walk_refuses (suc n) octets d r w h place =
    ap (walk n) (step_refuses octets d r w place) ∙ walk_stopped n r place

read_at_end : (fs : List Field) (octets : List ℕ) → MadeOf octets fs → (e : Desk) → edit_all fs bare ≡ accepted e
    → read_plan octets ≡ ended (going (total field_length fs) [] e)
read_at_end fs octets b e q =
    rest_decides fs octets [] b e q ∙ ap ended (walk_done (length octets) (total field_length fs) e)

read_at_refusal : (fs : List Field) (octets rest : List ℕ) → Begins octets fs rest → (e : Desk)
    → edit_all fs bare ≡ accepted e → (r : Refusal) → FrontRefused rest e r
    → read_plan octets ≡ refused_at r (total field_length fs)
unfolding ended
read_at_refusal fs octets rest b e q r w =
    rest_decides fs octets rest b e q
    ∙ ap ended
    (walk_refuses (length octets) rest e r w (omega (arith, begins_length fs octets rest b)) (total field_length fs))

-- ---- any octets: fields that are edited in, and then the end or a refusal

record Parts (octets : List ℕ) (d : Desk) : Type 0 where
  fields : List Field
  rest : List ℕ
  desk : Desk
  begins : Begins octets fields rest
  edits : edit_all fields d ≡ accepted desk
  ends : (rest ≡ []) ⊎ ((r : Refusal) × FrontRefused rest desk r)

none_yet : (octets : List ℕ) (d : Desk) → (octets ≡ []) ⊎ ((r : Refusal) × FrontRefused octets d r) → Parts octets d
unfolding edit_all
none_yet octets d w = record { fields = []; rest = octets; desk = d; begins = refl; edits = refl; ends = w }

one_more : (octets : List ℕ) (d c : Desk) (f : Field) → front octets ≡ accepted f → edit f d ≡ accepted c
    → Parts (drop (field_length f) octets) c → Parts octets d
unfolding edit_all
one_more octets d c f e q p =
    record {
      fields = f ∷ p.fields;
      rest = p.rest;
      desk = p.desk;
      begins = (e, p.begins);
      edits = rw q p.edits;
      ends = p.ends;
    }

-- the front is read, where there are octets, and its edit made
one_turn : (octets : List ℕ) (d : Desk)
    → ((f : Field) (c : Desk) → field_length f ≤ length octets → Parts (drop (field_length f) octets) c)
    → Parts octets d
one_turn [] d later = none_yet [] d (inl refl)
one_turn (x ∷ xs) d later = by_front (front (x ∷ xs)) refl
  where
    by_edit : (f : Field) → front (x ∷ xs) ≡ accepted f → (a : Answer Desk) → edit f d ≡ a → Parts (x ∷ xs) d
    by_edit f e (accepted c) q = one_more (x ∷ xs) d c f e q (later f c (front_takes (x ∷ xs) f e))
    by_edit f e (refused r) q = none_yet (x ∷ xs) d (inr (r, (omega arith, inr (f, e, q))))

    by_front : (a : Answer Field) → front (x ∷ xs) ≡ a → Parts (x ∷ xs) d
    by_front (accepted f) e = by_edit f e (edit f d) refl
    by_front (refused r) e = none_yet (x ∷ xs) d (inr (r, (omega arith, inl e)))

parts : (n : ℕ) (octets : List ℕ) (d : Desk) → length octets ≤ n → Parts octets d
unfolding field_length
parts zero octets d h = one_turn octets d (λ f c k. absurd (omega arith))
parts (suc n) octets d h =
    one_turn octets d
    (λ f c k. parts n (drop (field_length f) octets) c (omega (arith, length-drop (field_length f) octets)))

-- ---- the whole reading

-- a plan of at least one field, whose edits, one by one, make the desk
abbrev pub AcceptedFields : List ℕ → Desk → Type 0
AcceptedFields octets d =
    (0 < length octets) × (fs : List Field) × MadeOf octets fs × (edit_all fs bare ≡ accepted d)

-- a field that is refused behind fields whose edits are accepted; its place is their length
pub record RefusedField (octets : List ℕ) (r : Refusal) (place : ℕ) : Type 0 where
  pub fields : List Field
  pub rest : List ℕ
  pub desk : Desk
  pub begins : Begins octets fields rest
  pub edits : edit_all fields bare ≡ accepted desk
  pub refuses : FrontRefused rest desk r
  pub at : place ≡ total field_length fields

-- "4: a plan [..] that is empty", at 0
abbrev pub EmptyPlan : List ℕ → Refusal → ℕ → Type 0
EmptyPlan octets r place = (octets ≡ []) × (r ≡ OutOfTurn) × (place ≡ 0)

read≢refused_at : {d : Desk} {r : Refusal} {place : ℕ} → ¬ (read d ≡ refused_at r place)
read≢refused_at e = let z : ◌≡◌ {A = ℕ} 0 1 = cc in omega arith

-- what the reader answers, with the reason
data Answered (octets : List ℕ) : Type 0 where
  reads : (d : Desk) → AcceptedPlan octets d → AcceptedFields octets d → Answered octets
  refuses : (r : Refusal) (place : ℕ) → read_plan octets ≡ refused_at r place
      → EmptyPlan octets r place ⊎ RefusedField octets r place → Answered octets

answered : (octets : List ℕ) → Answered octets
unfolding ended
answered octets =
    let p = parts (length octets) octets bare (le_refl (length octets)) in
    ⊎_elim (λ e. at_end p.fields p.desk (rw e at p.begins) p.edits)
    (λ (r, w). at_refusal p.fields p.rest p.desk p.begins p.edits r w) p.ends
  where
    at_end : (fs : List Field) (e : Desk) → MadeOf octets fs → edit_all fs bare ≡ accepted e → Answered octets
    at_end fs bare b q =
        let none : length octets ≤ 0 = omega (arith, begins_length fs octets [] b, bare_length, edits_plan fs bare q) in
        refuses OutOfTurn 0 (read_at_end fs octets b bare q) (inl (drop_of_length-le octets {i = 0} none, refl, refl))
    at_end fs (opened p ss js) b q =
        let d = opened p ss js in
        let some : 0 < length octets =
        omega (arith, begins_length fs octets [] b, plan_length_lem p ss js, edits_plan fs d q) in
        reads d (read_at_end fs octets b d q) (some, fs, b, q)

    at_refusal : (fs : List Field) (rest : List ℕ) (e : Desk) → Begins octets fs rest → edit_all fs bare ≡ accepted e
        → (r : Refusal) → FrontRefused rest e r → Answered octets
    at_refusal fs rest e b q r w =
        refuses r (total field_length fs) (read_at_refusal fs octets rest b e q r w)
        (inr (record { fields = fs; rest = rest; desk = e; begins = b; edits = q; refuses = w; at = refl }))

-- a plan is accepted exactly where the edits of its fields are, one by one
pub accepted_when : (octets : List ℕ) (d : Desk) → AcceptedPlan octets d ↔ AcceptedFields octets d
unfolding ended
accepted_when octets d = (λ e. to e (answered octets), λ (h, fs, b, q). from fs h b d q)
  where
    to : AcceptedPlan octets d → Answered octets → AcceptedFields octets d
    to e (reads c a (h, fs, b, q)) = (h, fs, b, q ∙ ap accepted (cc))
    to e (refuses r place a w) = absurd (read≢refused_at (sym e ∙ a))

    from : (fs : List Field) → 0 < length octets → MadeOf octets fs → (d : Desk) → edit_all fs bare ≡ accepted d
        → AcceptedPlan octets d
    from fs h b bare q = absurd (omega (arith, begins_length fs octets [] b, bare_length, edits_plan fs bare q))
    from fs h b (opened p ss js) q = read_at_end fs octets b (opened p ss js) q

-- and refused exactly where it is empty, or one of its fields is refused behind edits that are accepted
pub refused_when : (octets : List ℕ) (r : Refusal) (place : ℕ)
    → read_plan octets ≡ refused_at r place ↔ (EmptyPlan octets r place ⊎ RefusedField octets r place)
unfolding read_plan walk ended
refused_when octets r place = (λ e. to e (answered octets), ⊎_elim empty at_field)
  where
    to : read_plan octets ≡ refused_at r place → Answered octets
        → EmptyPlan octets r place ⊎ RefusedField octets r place
    to e (reads c a _) = absurd (read≢refused_at (sym a ∙ e))
    to e (refuses s at a w) = subst₂ (λ x k. EmptyPlan octets x k ⊎ RefusedField octets x k) (cc) (cc) w

    empty : EmptyPlan octets r place → read_plan octets ≡ refused_at r place
    empty (e, f, g) = rw (e, f, g)

    at_field : RefusedField octets r place → read_plan octets ≡ refused_at r place
    at_field f =
        read_at_refusal f.fields octets f.rest f.begins f.desk f.edits r f.refuses
        ∙ ap (refused_at r) (sym f.at)

-- of a plan whose fields are known: reading it is making their edits
pub accepted_edits : (f : Field) (fs : List Field) (octets : List ℕ) → MadeOf octets (f ∷ fs) → (d : Desk)
    → AcceptedPlan octets d ↔ (edit_all (f ∷ fs) bare ≡ accepted d)
unfolding field_length
accepted_edits f fs octets b d = (
  λ e.
      let (_, gs, c, q) = (accepted_when octets d).0 e in
      rw (made_of_unique (f ∷ fs) gs octets b c) q,
  λ q. (accepted_when octets d).1 (omega (arith, front_takes octets f b.0), f ∷ fs, b, q),
)

-- ---- accepted plans

-- the octets of an accepted plan are those of its fields
pub accepted_fields : (octets : List ℕ) (d : Desk) → Octets octets → AcceptedPlan octets d
    → (fs : List Field) × (octets ≡ joined field_octets fs) × ((f : Field) → Mem f fs → FieldFits f)
    × (edit_all fs bare ≡ accepted d)
accepted_fields octets d o e =
    let (_, fs, b, q) = (accepted_when octets d).0 e in
    let (j, fit) = made_joined fs octets o b in
    (fs, j, fit, q)

pub accepted_sound : (octets : List ℕ) (d : Desk) → AcceptedPlan octets d → SoundDesk d
accepted_sound octets d e =
    let (_, fs, _, q) = (accepted_when octets d).0 e in
    edits_sound fs bare d sound_bare q

-- "The reader answers number, the place [..] and the bare desk"
pub refused_bare : (octets : List ℕ) (r : Refusal) (place : ℕ) → read_plan octets ≡ refused_at r place
    → desk_read (read_plan octets) ≡ bare
unfolding desk_read
refused_bare octets r place e = rw e

-- whatever the octets, the desk handed back is sound
pub read_sound : (octets : List ℕ) → SoundDesk (desk_read (read_plan octets))
unfolding desk_read
read_sound octets = go (read_plan octets) refl
  where
    go : (o : Outcome) → read_plan octets ≡ o → SoundDesk (desk_read o)
    go (read d) e = accepted_sound octets d e
    go (refused_at r place) e = sound_bare

-- an accepted plan is no longer than the longest that is written
pub accepted_short : (octets : List ℕ) (d : Desk) → AcceptedPlan octets d → length octets ≤ 1_648
accepted_short octets d e =
    let (_, fs, b, q) = (accepted_when octets d).0 e in
    omega (arith, begins_length fs octets [] b, edits_short fs d q)

-- ---- refused plans

-- the reader answers only 1 to 8 and 10
pub reader_numbers : (octets : List ℕ) (r : Refusal) (place : ℕ) → read_plan octets ≡ refused_at r place
    → Mem (number_of r) (1 ∷ 2 ∷ 3 ∷ 4 ∷ 5 ∷ 6 ∷ 7 ∷ 8 ∷ 10 ∷ [])
unfolding number_of any every
reader_numbers octets r place e =
    ⊎_elim (λ (_, q, _). among_these (4 ∷ []) _ refl (number_of r) (Memᴰ.head (ap number_of q)))
    (λ f.
    ⊎_elim (λ q. among_these _ _ refl (number_of r) ((front_says f.rest).only r q))
    (λ (g, _, q). among_these _ _ refl (number_of r) (edit_numbers g f.desk r q))
    f.refuses.1)
    ((refused_when octets r place).0 e)
