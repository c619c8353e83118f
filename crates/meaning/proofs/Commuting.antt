-- Edits in either order: which two edits of document 01 may change places, and that a removal undoes its addition.
-- Assumes nothing.
use mathlib.Core.Path.{◌≡◌, refl, sym, ap, ◌∙◌}
use mathlib.Core.Logic.{◌↔◌, inl, inr, ⊎_elim}
use mathlib.Core.Bool.{Bool, true, false, and_comm, false≢true}
use mathlib.Core.List.{List}
use Prim.Native.Nat.{ℕ, ◌<◌, zero-le}
use native.Mathlib.Omega.{arith}
use lib.ListN.{length}
use lib.Dec.{ltb, eqb}
use borrow.Author.Tests.{eqb-false, lt-ltb, ne_eqb}
use Rattle.laws.specs.Lists.{keep, any, Mem, RisingBy}
use Rattle.laws.proofs.Lists.{any_false}
use Rattle.laws.proofs.Keeping.{keep_mem, keep_shorter}
use Rattle.laws.proofs.Inserting.{length_insert_by, mem_insert_by, insert_by_rises}
use Rattle.laws.proofs.Commuting.{ByKey, adding, removing, edit, Allowed, Apart, Rules, any_insert}
use Rattle.laws.proofs.Commuting.{added_held, added_removed, either_order, second_first}
use Rattle.meaning.specs.declared.Port.{Port}
use Rattle.meaning.specs.declared.Slot.{Slot}
use Rattle.meaning.specs.declared.Stream.{Stream}
use Rattle.meaning.specs.Ranges.{most_slots, most_streams, octet_limit, slot_ranges, stream_ranges, in_range}
use Rattle.meaning.specs.Runs.{gate_of, has_free}
use Rattle.meaning.specs.Response.{others}
use Rattle.meaning.specs.Refusals.{Answer, accepted}
use Rattle.meaning.specs.Desks.{Desk, bare, opened}
use Rattle.meaning.specs.Calls.{overlaps, with_slot, with_stream, add_slot, remove_slot, add_stream, remove_stream}
use Rattle.meaning.specs.Promises.{Chain, Sound, SoundDesk}
use Rattle.meaning.proofs.InRange.{slot_in}
use Rattle.meaning.proofs.Refusing.{accepted≢refused}
use Rattle.meaning.proofs.Conditions.{add_slot_says, remove_slot_says, add_stream_says, remove_stream_says}
use Rattle.meaning.proofs.Cells.{fewer_slots_free}
use Rattle.meaning.proofs.Chains.{chain_mem}
use Rattle.meaning.proofs.Sounds.{chain_rises, chain_insert, gate_of_streams}

-- ---- edits of slots and streams

pub data Edit : Type 0 where
  of_slots : ByKey Slot → Edit
  of_streams : ByKey Stream → Edit

abbrev pub making : Edit → Desk → Answer Desk
making (of_slots (adding s)) d = add_slot s d
making (of_slots (removing start)) d = remove_slot start d
making (of_streams (adding j)) d = add_stream j d
making (of_streams (removing id)) d = remove_stream id d

-- a and then b, both accepted, make f of d
abbrev pub InTurn : (Desk → Answer Desk) → (Desk → Answer Desk) → Desk → Desk → Type 0
InTurn a b d f = (e : Desk) × (a d ≡ accepted e) × (b e ≡ accepted f)

-- ---- what an edit makes of the slots and of the streams, and where it may be made

abbrev start_of : Slot → ℕ
start_of s = s.start

abbrev id_of : Stream → ℕ
id_of j = j.id

abbrev MaySlot : Port → List Stream → Slot → List Slot → Type 0
MaySlot p js s ss =
    (in_range (slot_ranges p.cycle s) ≡ true) × (length ss < most_slots) × (any (overlaps s) ss ≡ false)
    × (has_free (gate_of p js) (with_slot s ss) ≡ true)

abbrev MayStream : Port → Stream → List Stream → Type 0
MayStream p j js =
    (in_range (stream_ranges (octet_limit p) j) ≡ true) × (length js < most_streams)
    × (any (λ x. eqb x.id j.id) js ≡ false)

abbrev May : Edit → Port → List Slot → List Stream → Type 0
May (of_slots a) p ss js = Allowed start_of (MaySlot p js) a ss
May (of_streams b) p ss js = Allowed id_of (MayStream p) b js

abbrev slots_by : Edit → List Slot → List Slot
slots_by (of_slots a) ss = edit start_of a ss
slots_by (of_streams b) ss = ss

abbrev streams_by : Edit → List Stream → List Stream
streams_by (of_slots a) js = js
streams_by (of_streams b) js = edit id_of b js

accepts : (a : Edit) (p : Port) (ss : List Slot) (js : List Stream) (e : Desk) → making a (opened p ss js) ≡ accepted e
    ↔ (May a p ss js × (e ≡ opened p (slots_by a ss) (streams_by a js)))
unfolding others
accepts (of_slots (adding s)) p ss js e =
    let says = (add_slot_says s p ss js).accepts e in (
      λ q. let (a, b, c, d, m) = says.0 q in ((a, b, c, d), m),
      λ ((a, b, c, d), m). says.1 (a, b, c, d, m),
    )
accepts (of_slots (removing start)) p ss js e = (remove_slot_says start p ss js).accepts e
accepts (of_streams (adding j)) p ss js e =
    let says = (add_stream_says j p ss js).accepts e in (
      λ q. let (a, b, c, m) = says.0 q in ((a, b, c), m),
      λ ((a, b, c), m). says.1 (a, b, c, m),
    )
accepts (of_streams (removing id)) p ss js e = (remove_stream_says id p ss js).accepts e

not_bare : (a : Edit) (e : Desk) → ¬ (making a bare ≡ accepted e)
unfolding add_slot remove_slot add_stream remove_stream
not_bare (of_slots (adding s)) e q = accepted≢refused (sym q)
not_bare (of_slots (removing start)) e q = accepted≢refused (sym q)
not_bare (of_streams (adding j)) e q = accepted≢refused (sym q)
not_bare (of_streams (removing id)) e q = accepted≢refused (sym q)

-- ---- the rules of slots and of streams

-- slots that start together overlap
starts_differ : (s x : Slot) → s.start < s.end → x.start < x.end → overlaps s x ≡ false → ¬ (x.start ≡ s.start)
starts_differ s x a b e q =
    false≢true (sym e ∙ rw (lt-ltb x.start s.end (omega arith), lt-ltb s.start x.end (omega arith)))

overlaps_either : (s t : Slot) → overlaps s t ≡ overlaps t s
overlaps_either s t = and_comm (ltb t.start s.end) (ltb s.start t.end)

slot_rules : (p : Port) (js : List Stream) → Rules start_of (λ ss. Chain 0 ss p.cycle) (MaySlot p js)
slot_rules p js =
    record {
      rises = λ ss h. chain_rises 0 p.cycle ss h;
      fresh = fresh;
      grows =
          λ s ss h m. let (b, c) = (slot_in p.cycle s).0 m.0 in
          chain_insert s 0 p.cycle ss zero-le b c ((any_false (overlaps s) ss).0 m.2) h;
      fewer = fewer;
      either_first = either;
    }
  where
    fresh : (s : Slot) (ss : List Slot) → Chain 0 ss p.cycle → MaySlot p js s ss
        → any (λ x. eqb x.start s.start) ss ≡ false
    fresh s ss h m =
        (any_false (λ x. eqb x.start s.start) ss).1
        (λ x k. ne_eqb x.start s.start
        (starts_differ s x ((slot_in p.cycle s).0 m.0).0 (chain_mem 0 ss p.cycle h x k).1
        ((any_false (overlaps s) ss).0 m.2 x k)))

    fewer : (s : Slot) (q : Slot → Bool) (ss : List Slot) → MaySlot p js s ss → MaySlot p js s (keep q ss)
    fewer s q ss (r, few, clear, free) = (
      r,
      omega (arith, keep_shorter q ss),
      (any_false (overlaps s) (keep q ss)).1 (λ x k. (any_false (overlaps s) ss).0 clear x ((keep_mem q ss x).0 k).0),
      fewer_slots_free (gate_of p js) (with_slot s ss) (with_slot s (keep q ss)) among free,
    )
      where
        among : (x : Slot) → Mem x (with_slot s (keep q ss)) → Mem x (with_slot s ss)
        among x k =
            (mem_insert_by start_of s ss x).1
            (⊎_elim inl (λ i. inr ((keep_mem q ss x).0 i).0) ((mem_insert_by start_of s (keep q ss) x).0 k))

    either : (s t : Slot) (ss : List Slot) → Chain 0 ss p.cycle → MaySlot p js s ss
        → MaySlot p js t (with_slot s ss) → with_slot t (with_slot s ss) ≡ with_slot s (with_slot t ss)
        → MaySlot p js s (with_slot t ss)
    either s t ss h (r, few, clear, free) (u, less, apart, left) e = (
      r,
      omega (arith, length_insert_by start_of s ss, length_insert_by start_of t ss),
      any_insert start_of (overlaps s) t ss
          ∙ rw (
            overlaps_either s t,
            (any_false (overlaps t) (with_slot s ss)).0 apart s ((mem_insert_by start_of s ss s).1 (inl refl)),
            clear,
          ),
      rw e at left,
    )

stream_rules : (p : Port) → Rules id_of (λ js. RisingBy id_of js) (MayStream p)
stream_rules p =
    record {
      rises = λ js h. h;
      fresh = λ j js h m. m.2;
      grows =
          λ j js h m.
          insert_by_rises id_of j js h (λ x k q. eqb-false x.id j.id ((any_false _ js).0 m.2 x k) (sym q));
      fewer =
          λ j q js (r, few, clear). (
            r,
            omega (arith, keep_shorter q js),
            (any_false (λ x. eqb x.id j.id) (keep q js)).1
                (λ x k. (any_false _ js).0 clear x ((keep_mem q js x).0 k).0),
          );
      either_first = either;
    }
  where
    either : (j k : Stream) (js : List Stream) → RisingBy id_of js → MayStream p j js → MayStream p k (with_stream j js)
        → with_stream k (with_stream j js) ≡ with_stream j (with_stream k js) → MayStream p j (with_stream k js)
    either j k js h (r, few, clear) (u, less, apart) e =
        let differ = (any_false _ (with_stream j js)).0 apart j ((mem_insert_by id_of j js j).1 (inl refl)) in (
          r,
          omega (arith, length_insert_by id_of j js, length_insert_by id_of k js),
          any_insert id_of (λ x. eqb x.id j.id) k js
              ∙ rw (ne_eqb k.id j.id (λ q. eqb-false j.id k.id differ (sym q)), clear),
        )

-- a slot edit may be made whatever streams are held
beside_streams : (a : ByKey Slot) (p : Port) (ss : List Slot) (js ks : List Stream) → May (of_slots a) p ss js
    → May (of_slots a) p ss ks
beside_streams (adding s) p ss js ks m = rw (gate_of_streams p ks js) m
beside_streams (removing start) p ss js ks m = m

-- ---- two edits in either order

-- b is not the removal of what a adds, and is no addition to what a leaves; edits of slots and of streams never meet
abbrev pub EditsApart : Edit → Edit → Type 0
EditsApart (of_slots a) (of_slots b) = Apart start_of a b
EditsApart (of_slots a) (of_streams b) = Unit {0}
EditsApart (of_streams a) (of_slots b) = Unit {0}
EditsApart (of_streams a) (of_streams b) = Apart id_of a b

module _ (p : Port) (ss : List Slot) (js : List Stream) (h : Sound p ss js) where
  either_edit : (a b : Edit) → May a p ss js → May b p (slots_by a ss) (streams_by a js) → May b p ss js
      → May a p (slots_by b ss) (streams_by b js) × (slots_by b (slots_by a ss) ≡ slots_by a (slots_by b ss))
      × (streams_by b (streams_by a js) ≡ streams_by a (streams_by b js))
  either_edit (of_slots a) (of_slots b) m n o =
      let (x, e) = either_order start_of (slot_rules p js) a b ss h.chain m n o in (x, e, refl)
  either_edit (of_slots a) (of_streams b) m n o = (beside_streams a p ss js (edit id_of b js) m, refl, refl)
  either_edit (of_streams a) (of_slots b) m n o = (m, refl, refl)
  either_edit (of_streams a) (of_streams b) m n o =
      let (x, e) = either_order id_of (stream_rules p) a b js h.ids_rise m n o in (x, refl, e)

  second_edit : (a b : Edit) → May a p ss js → May b p (slots_by a ss) (streams_by a js) → EditsApart a b
      → May b p ss js
  second_edit (of_slots a) (of_slots b) m n s = second_first start_of (slot_rules p js) a b ss h.chain m n s
  second_edit (of_slots a) (of_streams b) m n s = n
  second_edit (of_streams a) (of_slots b) m n s = beside_streams b p ss (edit id_of a js) js n
  second_edit (of_streams a) (of_streams b) m n s = second_first id_of (stream_rules p) a b js h.ids_rise m n s

module _ (a b : Edit) where
  -- what two edits that are accepted in turn say of an open desk
  in_turn : (p : Port) (ss : List Slot) (js : List Stream) (f : Desk) → InTurn (making a) (making b) (opened p ss js) f
      → May a p ss js × May b p (slots_by a ss) (streams_by a js)
      × (f ≡ opened p (slots_by b (slots_by a ss)) (streams_by b (streams_by a js)))
  in_turn p ss js f (e, q, r) =
      let (m, u) = (accepts a p ss js e).0 q in
      let (n, w) = (accepts b p (slots_by a ss) (streams_by a js) f).0 (ap (making b) (sym u) ∙ r) in
      (m, n, w)

  -- a and then b: the other order is accepted and makes the same desk exactly where b is accepted on the desk given
  pub edits_commute : (d f : Desk) → SoundDesk d → InTurn (making a) (making b) d f
      → InTurn (making b) (making a) d f ↔ ((e : Desk) × (making b d ≡ accepted e))
  edits_commute bare f h (e, q, r) = absurd (not_bare a e q)
  edits_commute (opened p ss js) f h t = (λ (e, q, r). (e, q), λ (e, q). back e q)
    where
      back : (e : Desk) → making b (opened p ss js) ≡ accepted e → InTurn (making b) (making a) (opened p ss js) f
      back e q =
          let (m, n, w) = in_turn p ss js f t in
          let (o, u) = (accepts b p ss js e).0 q in
          let (x, c, k) = either_edit p ss js h a b m n o in (
            e,
            q,
            ap (making a) u
                ∙ (accepts a p (slots_by b ss) (streams_by b js) f).1 (x, w ∙ (λ i. opened p (c i) (k i))),
          )

  -- where they are apart, b is accepted there
  pub second_accepted : (d f : Desk) → SoundDesk d → EditsApart a b → InTurn (making a) (making b) d f
      → (e : Desk) × (making b d ≡ accepted e)
  second_accepted bare f h s (e, q, r) = absurd (not_bare a e q)
  second_accepted (opened p ss js) f h s t =
      let (m, n, _) = in_turn p ss js f t in
      (_, (accepts b p ss js _).1 (second_edit p ss js h a b m n s, refl))

  -- so edits that are apart may change places
  pub apart_commute : (d f : Desk) → SoundDesk d → EditsApart a b → InTurn (making a) (making b) d f
      → InTurn (making b) (making a) d f
  apart_commute d f h s t = (edits_commute d f h t).1 (second_accepted d f h s t)

-- ---- an addition and its removal

-- an accepted addition, and then the removal by its start: the desk before
pub slot_added_removed : (s : Slot) (d e : Desk) → SoundDesk d → add_slot s d ≡ accepted e
    → remove_slot s.start e ≡ accepted d
slot_added_removed s bare e h q = absurd (not_bare (of_slots (adding s)) e q)
slot_added_removed s (opened p ss js) e h q =
    let (m, u) = (accepts (of_slots (adding s)) p ss js e).0 q in
    let undone = added_removed start_of s ss ((slot_rules p js).fresh s ss h.chain m) in
    ap (remove_slot s.start) u
    ∙ (accepts (of_slots (removing s.start)) p (with_slot s ss) js _).1
    (added_held start_of s ss, λ i. opened p (sym undone i) js)

-- and by its id
pub stream_added_removed : (j : Stream) (d e : Desk) → SoundDesk d → add_stream j d ≡ accepted e
    → remove_stream j.id e ≡ accepted d
stream_added_removed j bare e h q = absurd (not_bare (of_streams (adding j)) e q)
stream_added_removed j (opened p ss js) e h q =
    let (m, u) = (accepts (of_streams (adding j)) p ss js e).0 q in
    let undone = added_removed id_of j js m.2 in
    ap (remove_stream j.id) u
    ∙ (accepts (of_streams (removing j.id)) p ss (with_stream j js) _).1
    (added_held id_of j js, λ i. opened p ss (sym undone i))

-- on one desk an addition and the removal of its start or id are never both accepted
pub slot_opposites : (s : Slot) (d e f : Desk) → SoundDesk d → add_slot s d ≡ accepted e
    → ¬ (remove_slot s.start d ≡ accepted f)
slot_opposites s bare e f h q r = not_bare (of_slots (adding s)) e q
slot_opposites s (opened p ss js) e f h q r =
    let (m, _) = (accepts (of_slots (adding s)) p ss js e).0 q in
    let (n, _) = (accepts (of_slots (removing s.start)) p ss js f).0 r in
    false≢true (sym ((slot_rules p js).fresh s ss h.chain m) ∙ n)

pub stream_opposites : (j : Stream) (d e f : Desk) → add_stream j d ≡ accepted e
    → ¬ (remove_stream j.id d ≡ accepted f)
stream_opposites j bare e f q r = not_bare (of_streams (adding j)) e q
stream_opposites j (opened p ss js) e f q r =
    let (m, _) = (accepts (of_streams (adding j)) p ss js e).0 q in
    let (n, _) = (accepts (of_streams (removing j.id)) p ss js f).0 r in
    false≢true (sym m.2 ∙ n)

-- ---- pair by pair: two additions and two removals always, an edit of slots and one of streams always; an addition and
-- then a removal, or the other way round, only as said

module _ (d f : Desk) (h : SoundDesk d) where
  -- two additions
  pub slots_commute : (s t : Slot) → InTurn (add_slot s) (add_slot t) d f → InTurn (add_slot t) (add_slot s) d f
  slots_commute s t = apart_commute (of_slots (adding s)) (of_slots (adding t)) d f h tt

  pub streams_commute : (j k : Stream) → InTurn (add_stream j) (add_stream k) d f
      → InTurn (add_stream k) (add_stream j) d f
  streams_commute j k = apart_commute (of_streams (adding j)) (of_streams (adding k)) d f h tt

  pub slot_stream_commute : (s : Slot) (j : Stream) → InTurn (add_slot s) (add_stream j) d f
      → InTurn (add_stream j) (add_slot s) d f
  slot_stream_commute s j = apart_commute (of_slots (adding s)) (of_streams (adding j)) d f h tt

  pub stream_slot_commute : (j : Stream) (s : Slot) → InTurn (add_stream j) (add_slot s) d f
      → InTurn (add_slot s) (add_stream j) d f
  stream_slot_commute j s = apart_commute (of_streams (adding j)) (of_slots (adding s)) d f h tt

  -- two removals
  pub slot_removals_commute : (k l : ℕ) → InTurn (remove_slot k) (remove_slot l) d f
      → InTurn (remove_slot l) (remove_slot k) d f
  slot_removals_commute k l = apart_commute (of_slots (removing k)) (of_slots (removing l)) d f h tt

  pub stream_removals_commute : (k l : ℕ) → InTurn (remove_stream k) (remove_stream l) d f
      → InTurn (remove_stream l) (remove_stream k) d f
  stream_removals_commute k l = apart_commute (of_streams (removing k)) (of_streams (removing l)) d f h tt

  -- any edit of slots and any edit of streams
  pub sides_commute : (a : ByKey Slot) (b : ByKey Stream)
      → InTurn (making (of_slots a)) (making (of_streams b)) d f
      ↔ InTurn (making (of_streams b)) (making (of_slots a)) d f
  sides_commute a b = (
    λ t. apart_commute (of_slots a) (of_streams b) d f h tt t,
    λ t. apart_commute (of_streams b) (of_slots a) d f h tt t,
  )

  -- an addition and then a removal: exactly where another one is removed
  pub slot_then_removal : (s : Slot) (k : ℕ) → InTurn (add_slot s) (remove_slot k) d f
      → InTurn (remove_slot k) (add_slot s) d f ↔ ¬ (k ≡ s.start)
  slot_then_removal s k (c, q, r) = (
    λ (e, w, _) same. slot_opposites s d c e h q (ap (λ (x : ℕ). remove_slot x d) (sym same) ∙ w),
    λ other. apart_commute (of_slots (adding s)) (of_slots (removing k)) d f h other (c, q, r),
  )

  pub stream_then_removal : (j : Stream) (k : ℕ) → InTurn (add_stream j) (remove_stream k) d f
      → InTurn (remove_stream k) (add_stream j) d f ↔ ¬ (k ≡ j.id)
  stream_then_removal j k (c, q, r) = (
    λ (e, w, _) same. stream_opposites j d c e q (ap (λ (x : ℕ). remove_stream x d) (sym same) ∙ w),
    λ other. apart_commute (of_streams (adding j)) (of_streams (removing k)) d f h other (c, q, r),
  )

  -- a removal and then an addition: exactly where the addition is accepted on the desk given
  pub removal_then_slot : (k : ℕ) (s : Slot) → InTurn (remove_slot k) (add_slot s) d f
      → InTurn (add_slot s) (remove_slot k) d f ↔ ((e : Desk) × (add_slot s d ≡ accepted e))
  removal_then_slot k s = edits_commute (of_slots (removing k)) (of_slots (adding s)) d f h

  pub removal_then_stream : (k : ℕ) (j : Stream) → InTurn (remove_stream k) (add_stream j) d f
      → InTurn (add_stream j) (remove_stream k) d f ↔ ((e : Desk) × (add_stream j d ≡ accepted e))
  removal_then_stream k j = edits_commute (of_streams (removing k)) (of_streams (adding j)) d f h
