-- "Slots and streams may come mixed": what is accepted, and the desk it gives, do not depend on how.
-- Assumes nothing.
use mathlib.Core.Path.{◌≡◌, refl, sym}
use mathlib.Core.Logic.Iff
use mathlib.Core.Logic.{◌↔◌, ◌≢◌}
use mathlib.Core.List.Memᴰ
use mathlib.Core.List.{List, [], ◌∷◌, ◌++◌, append_assoc}
use Prim.Native.Nat.{ℕ}
use native.Mathlib.Omega.{arith}
use lib.Dec.{eqb}
use borrow.Author.Tests.{eqb-true, eq-eqb}
use Rattle.laws.specs.Lists.{keep, joined, Mem}
use Rattle.laws.proofs.Lists.{mem_head}
use Rattle.laws.proofs.Keeping.{in_cons, in_append, keep_mem}
use Rattle.meaning.specs.declared.Port.{Port}
use Rattle.meaning.specs.declared.Slot.{Slot}
use Rattle.meaning.specs.declared.Stream.{Stream}
use Rattle.meaning.specs.Refusals.{accepted}
use Rattle.meaning.specs.Desks.{Desk, bare, opened}
use Rattle.meaning.specs.Calls.{with_slot, with_stream, open_port, add_slot, add_stream}
use Rattle.meaning.specs.Bytes.{Field, port_field, slot_field, stream_field, tag_of, field_octets, edit}
use Rattle.meaning.specs.Plans.{MadeOf, AcceptedPlan, of_tag, SameByTag}
use Rattle.meaning.proofs.Refusing.{accepted≢refused}
use Rattle.meaning.proofs.Conditions.{add_slot_says, add_stream_says}
use Rattle.meaning.proofs.Sounds.{gate_of_streams}
use Rattle.meaning.proofs.Fields.{FieldFits}
use Rattle.meaning.proofs.Readings.{edit_all, edit_first}
use Rattle.meaning.proofs.FieldRows.{joined_made}
use Rattle.meaning.proofs.Edits.{edit_opens}
use Rattle.meaning.proofs.Accepted.{accepted_edits}

-- ---- a slot and a stream

-- a slot goes in beside any streams as beside these: they leave the gate's numbers as they are
slot_beside : (s : Slot) (p : Port) (ss : List Slot) (js ks : List Stream) (e : Desk)
    → add_slot s (opened p ss js) ≡ accepted e
    → (e ≡ opened p (with_slot s ss) js)
    × (add_slot s (opened p ss ks) ≡ accepted (opened p (with_slot s ss) ks))
slot_beside s p ss js ks e q =
    let (r, few, clear, free, w) = ((add_slot_says s p ss js).accepts e).0 q in
    let free' = rw (gate_of_streams p js ks) at free in
    (w, ((add_slot_says s p ss ks).accepts (opened p (with_slot s ss) ks)).1 (r, few, clear, free', refl))

-- and a stream beside any slots
stream_beside : (j : Stream) (p : Port) (ss ts : List Slot) (js : List Stream) (e : Desk)
    → add_stream j (opened p ss js) ≡ accepted e
    → (e ≡ opened p ss (with_stream j js))
    × (add_stream j (opened p ts js) ≡ accepted (opened p ts (with_stream j js)))
stream_beside j p ss ts js e q =
    let (r, few, clear, w) = ((add_stream_says j p ss js).accepts e).0 q in
    (w, ((add_stream_says j p ts js).accepts (opened p ts (with_stream j js))).1 (r, few, clear, refl))

-- ---- rows of fields that are edited in alike

-- from any open desk, where fs is accepted gs is, with the same outcome
abbrev Follows : List Field → List Field → Type 0
Follows fs gs =
    (p : Port) (ss : List Slot) (js : List Stream) (e : Desk) → edit_all fs (opened p ss js) ≡ accepted e
    → edit_all gs (opened p ss js) ≡ accepted e

abbrev Alike : List Field → List Field → Type 0
Alike fs gs = Follows fs gs × Follows gs fs

alike_trans : (fs gs hs : List Field) → Alike fs gs → Alike gs hs → Alike fs hs
alike_trans fs gs hs (a, b) (c, d) =
    (λ p ss js e q. c p ss js e (a p ss js e q), λ p ss js e q. b p ss js e (d p ss js e q))

edit_then : (f : Field) (fs : List Field) (d c e : Desk) → edit f d ≡ accepted c → edit_all fs c ≡ accepted e
    → edit_all (f ∷ fs) d ≡ accepted e
unfolding edit_all
edit_then f fs d c e a b = rw a b

-- behind the same field
after : (f : Field) (fs gs : List Field) → Follows fs gs → (d e : Desk) → edit_all (f ∷ fs) d ≡ accepted e
    → edit_all (f ∷ gs) d ≡ accepted e
after f fs gs h d e q =
    let (p, ss, js, a, b) = edit_opens f fs d e q in
    edit_then f gs d (opened p ss js) e a (h p ss js e b)

-- on an open desk a PORT is refused, and so it is behind any field
second_port : (q p : Port) (ss : List Slot) (js : List Stream) (fs : List Field) (e : Desk)
    → ¬ (edit_all (port_field q ∷ fs) (opened p ss js) ≡ accepted e)
unfolding edit open_port
second_port q p ss js fs e h =
    let (c, a, _) = edit_first (port_field q) fs (opened p ss js) e h in
    accepted≢refused (sym a)

port_behind : (f : Field) (q : Port) (fs : List Field) (d e : Desk)
    → ¬ (edit_all (f ∷ port_field q ∷ fs) d ≡ accepted e)
port_behind f q fs d e h =
    let (p, ss, js, _, b) = edit_opens f (port_field q ∷ fs) d e h in
    second_port q p ss js fs e b

-- fields of two tags, one before the other or behind it
swapped : (f g : Field) (hs : List Field) → tag_of f ≢ tag_of g → Follows (f ∷ g ∷ hs) (g ∷ f ∷ hs)
unfolding edit tag_of
swapped (port_field q) g hs ne p ss js e h = absurd (second_port q p ss js (g ∷ hs) e h)
swapped (slot_field s) (port_field q) hs ne p ss js e h = absurd (port_behind (slot_field s) q hs (opened p ss js) e h)
swapped (stream_field j) (port_field q) hs ne p ss js e h = absurd
    (port_behind (stream_field j) q hs (opened p ss js) e h)
swapped (slot_field s) (slot_field t) hs ne p ss js e h = absurd (ne refl)
swapped (stream_field j) (stream_field k) hs ne p ss js e h = absurd (ne refl)
swapped (slot_field s) (stream_field j) hs ne p ss js e h =
    let (c, a, b) = edit_first (slot_field s) (stream_field j ∷ hs) (opened p ss js) e h in
    let (w, slot) = slot_beside s p ss js (with_stream j js) c a in
    let (c₂, a₂, b₂) = edit_first (stream_field j) hs (opened p (with_slot s ss) js) e (rw w at b) in
    let (w₂, stream) = stream_beside j p (with_slot s ss) ss js c₂ a₂ in
    edit_then (stream_field j) (slot_field s ∷ hs) (opened p ss js) (opened p ss (with_stream j js)) e stream
    (edit_then (slot_field s) hs _ (opened p (with_slot s ss) (with_stream j js)) e slot (rw w₂ at b₂))
swapped (stream_field j) (slot_field s) hs ne p ss js e h =
    let (c, a, b) = edit_first (stream_field j) (slot_field s ∷ hs) (opened p ss js) e h in
    let (w, stream) = stream_beside j p ss (with_slot s ss) js c a in
    let (c₂, a₂, b₂) = edit_first (slot_field s) hs (opened p ss (with_stream j js)) e (rw w at b) in
    let (w₂, slot) = slot_beside s p ss (with_stream j js) js c₂ a₂ in
    edit_then (slot_field s) (stream_field j ∷ hs) (opened p ss js) (opened p (with_slot s ss) js) e slot
    (edit_then (stream_field j) hs _ (opened p (with_slot s ss) (with_stream j js)) e stream (rw w₂ at b₂))

-- a field in front of fields of other tags, or behind them
past : (f : Field) (gs hs : List Field) → ((g : Field) → Mem g gs → tag_of f ≢ tag_of g)
    → Alike (f ∷ (gs ++ hs)) (gs ++ f ∷ hs)
past f [] hs ne = (λ p ss js e q. q, λ p ss js e q. q)
past f (g ∷ gs) hs ne =
    let other = ne g (mem_head g gs) in
    let (a, b) = past f gs hs (λ x m. ne x (Memᴰ.tail m)) in
    alike_trans (f ∷ g ∷ (gs ++ hs)) (g ∷ f ∷ (gs ++ hs)) (g ∷ (gs ++ f ∷ hs))
    (swapped f g (gs ++ hs) other, swapped g f (gs ++ hs) (λ e. other (sym e))) (
      λ p ss js. after g (f ∷ (gs ++ hs)) (gs ++ f ∷ hs) a (opened p ss js),
      λ p ss js. after g (gs ++ f ∷ hs) (f ∷ (gs ++ hs)) b (opened p ss js),
    )

-- ---- the fields by their tags

abbrev by_tag : List Field → List Field
by_tag fs = of_tag 1 fs ++ (of_tag 2 fs ++ of_tag 3 fs)

tag_of_lem : (tag : ℕ) (fs : List Field) (f : Field) → Mem f (of_tag tag fs) → tag_of f ≡ tag
tag_of_lem tag fs f m = eqb-true (tag_of f) tag ((keep_mem (λ x. eqb (tag_of x) tag) fs f).0 m).1

-- one more field goes behind those of the tags before its own
one_more : (f : Field) (fs : List Field) → Alike (f ∷ by_tag fs) (by_tag (f ∷ fs))
unfolding keep tag_of
one_more (port_field p) fs = (λ p ss js e q. q, λ p ss js e q. q)
one_more (slot_field s) fs =
    past (slot_field s) (of_tag 1 fs) (of_tag 2 fs ++ of_tag 3 fs) (λ g m e. omega (arith, tag_of_lem 1 fs g m))
one_more (stream_field j) fs =
    let other : (g : Field) → Mem g (of_tag 1 fs ++ of_tag 2 fs) → 3 ≢ tag_of g =
    λ g m e. in_append (of_tag 1 fs) m (λ k. omega (arith, tag_of_lem 1 fs g k))
    (λ k. omega (arith, tag_of_lem 2 fs g k)) in
    rw (
      append_assoc (of_tag 1 fs) (of_tag 2 fs) (of_tag 3 fs),
      append_assoc (of_tag 1 fs) (of_tag 2 fs) (stream_field j ∷ of_tag 3 fs),
    ) at (past (stream_field j) (of_tag 1 fs ++ of_tag 2 fs) (of_tag 3 fs) other)

by_tag_lem : (fs : List Field) → Alike fs (by_tag fs)
unfolding keep
by_tag_lem [] = (λ p ss js e q. q, λ p ss js e q. q)
by_tag_lem (f ∷ fs) =
    let (a, b) = by_tag_lem fs in
    alike_trans (f ∷ fs) (f ∷ by_tag fs) (by_tag (f ∷ fs))
    (λ p ss js. after f fs (by_tag fs) a (opened p ss js), λ p ss js. after f (by_tag fs) fs b (opened p ss js))
    (one_more f fs)

same_follows : (fs gs : List Field) → SameByTag fs gs → Follows fs gs
same_follows fs gs same p ss js e q =
    (by_tag_lem gs).1 p ss js e (rw (same 1, same 2, same 3) at ((by_tag_lem fs).0 p ss js e q))

-- ---- mixed otherwise

-- behind the same PORT, the edits of slots and streams mixed in one way are accepted where those in another are
pub mixed_same : (p : Port) (fs gs : List Field) → SameByTag fs gs → (d : Desk)
    → (edit_all (port_field p ∷ fs) bare ≡ accepted d) ↔ (edit_all (port_field p ∷ gs) bare ≡ accepted d)
mixed_same p fs gs same d = (
  after (port_field p) fs gs (same_follows fs gs same) bare d,
  after (port_field p) gs fs (same_follows gs fs (λ tag. sym (same tag))) bare d,
)

-- and so of plans
pub mixed_plans : (p : Port) (fs gs : List Field) → SameByTag fs gs → (xs ys : List ℕ)
    → MadeOf xs (port_field p ∷ fs) → MadeOf ys (port_field p ∷ gs) → (d : Desk)
    → AcceptedPlan xs d ↔ AcceptedPlan ys d
mixed_plans p fs gs same xs ys a b d =
    Iff.trans (accepted_edits (port_field p) fs xs a d)
    (Iff.trans (mixed_same p fs gs same d) (Iff.symm (accepted_edits (port_field p) gs ys b d)))

same_members : (fs gs : List Field) → SameByTag fs gs → (g : Field) → Mem g gs → Mem g fs
same_members fs gs same g m =
    let tagged : Field → _ = λ x. eqb (tag_of x) (tag_of g) in
    ((keep_mem tagged fs g).0 (rw (same (tag_of g)) ((keep_mem tagged gs g).1
    (m, eq-eqb (tag_of g) (tag_of g) refl)))).0

-- where each number fits into its octets, of the fields' own octets
pub mixed_octets : (p : Port) (fs gs : List Field) → SameByTag fs gs
    → ((f : Field) → Mem f (port_field p ∷ fs) → FieldFits f) → (d : Desk)
    → AcceptedPlan (joined field_octets (port_field p ∷ fs)) d ↔ AcceptedPlan
    (joined field_octets (port_field p ∷ gs)) d
mixed_octets p fs gs same fit d =
    mixed_plans p fs gs same _ _ (joined_made (port_field p ∷ fs) fit)
    (joined_made (port_field p ∷ gs)
    (λ g m. fit g (in_cons m (λ e. Memᴰ.head e) (λ k. Memᴰ.tail (same_members fs gs same g k)))))
    d
