-- What every edit of document 01 keeps: from a sound desk it hands on a sound desk.
-- Assumes nothing.
use mathlib.Core.Path.{◌≡◌, refl, sym, subst}
use mathlib.Core.Logic.{◌↔◌, ◌⊎◌, inl, inr, ⊎_elim}
use mathlib.Core.Bool.{Bool, true, false, not, cond, ◌&&◌}
use mathlib.Core.List.Memᴰ
use mathlib.Core.List.{List, [], ◌∷◌}
use Prim.Native.Nat.{ℕ, ◌≤◌, ◌<◌, zero-le}
use native.Mathlib.Nat.{le_trans}
use native.Mathlib.Omega.{arith}
use lib.ListN.{length}
use lib.Dec.{ltb, eqb}
use borrow.Author.Tests.{ltb-true, ltb-false, eqb-false}
use Rattle.laws.specs.Lists.{keep, insert_by, Mem, RisingBy}
use Rattle.laws.proofs.Lists.{any_false, mem_head, mem_none}
use Rattle.laws.proofs.Inserting.{length_insert_by, mem_insert_by, insert_by_rises, keep_rises}
use Rattle.laws.proofs.Keeping.{keep_mem, keep_shorter}
use Rattle.meaning.specs.declared.Port.{Port}
use Rattle.meaning.specs.declared.Slot.{Slot}
use Rattle.meaning.specs.declared.Stream.{Stream}
use Rattle.meaning.specs.Ranges.{most_slots, most_streams, octet_limit, port_ranges, stream_ranges, in_range}
use Rattle.meaning.specs.Runs.{gate_of, has_free}
use Rattle.meaning.specs.Response.{others}
use Rattle.meaning.specs.Refusals.{accepted}
use Rattle.meaning.specs.Desks.{Desk, bare, opened, SameDesk}
use Rattle.meaning.specs.Calls.{overlaps, with_slot, with_stream, open_port, add_slot, remove_slot, add_stream}
use Rattle.meaning.specs.Calls.{remove_stream}
use Rattle.meaning.specs.Promises.{Chain, Sound, SoundDesk}
use Rattle.meaning.proofs.InRange.{port_in_lem, slot_in}
use Rattle.meaning.proofs.Refusing.{accepted≢refused}
use Rattle.meaning.proofs.Conditions.{open_says, add_slot_says, remove_slot_says, add_stream_says}
use Rattle.meaning.proofs.Conditions.{remove_stream_says}
use Rattle.meaning.proofs.Cells.{no_slots_free, fewer_slots_free}
use Rattle.meaning.proofs.Chains.{chain_mem}

-- ---- the same desk

same_self : (d : Desk) → SameDesk d d
same_self bare = tt
same_self (opened p ss js) = (refl, refl, refl, refl)

-- the stairs follow from the rest, so that desks are the same where they are equal
pub same_desk : (d e : Desk) → SameDesk d e ↔ (d ≡ e)
same_desk d e = (to d e, λ q. subst (SameDesk d) q (same_self d))
  where
    to : (d e : Desk) → SameDesk d e → d ≡ e
    to bare bare h = refl
    to bare (opened q ts ks) h = absurd h
    to (opened p ss js) bare h = absurd h
    to (opened p ss js) (opened q ts ks) (a, b, c, _) = λ i. opened (a i) (b i) (c i)

-- ---- chains of slots

chain_lower : (lo₁ lo₂ hi : ℕ) (ss : List Slot) → lo₂ ≤ lo₁ → Chain lo₁ ss hi → Chain lo₂ ss hi
chain_lower lo₁ lo₂ hi [] h c = le_trans h c
chain_lower lo₁ lo₂ hi (s ∷ ss) h (a, b, c) = (le_trans h a, b, c)

-- the starts of a chain rise
pub chain_rises : (lo hi : ℕ) (ss : List Slot) → Chain lo ss hi → RisingBy (λ s. s.start) ss
chain_rises lo hi [] c = tt
chain_rises lo hi (s ∷ ss) c =
    (λ t m. omega (arith, chain_mem s.end ss hi c.2 t m), chain_rises s.end hi ss c.2)

-- some slots of a chain are a chain
pub chain_keep : (p : Slot → Bool) (lo hi : ℕ) (ss : List Slot) → Chain lo ss hi → Chain lo (keep p ss) hi
unfolding keep
chain_keep p lo hi [] c = c
chain_keep p lo hi (s ∷ ss) c = go (p s) (chain_keep p s.end hi ss c.2)
  where
    go : (b : Bool) → Chain s.end (keep p ss) hi → Chain lo (cond b (s ∷ keep p ss) (keep p ss)) hi
    go true k = (c.0, c.1, k)
    go false k = chain_lower s.end lo hi (keep p ss) (omega arith) k

-- of two slots that do not overlap one ends before the other starts
apart : (s x : Slot) → overlaps s x ≡ false → (s.end ≤ x.start) ⊎ (x.end ≤ s.start)
apart s x e = go (ltb x.start s.end) refl e
  where
    go : (b : Bool) → ltb x.start s.end ≡ b → (b && ltb s.start x.end) ≡ false
        → (s.end ≤ x.start) ⊎ (x.end ≤ s.start)
    go true t f = inr (ltb-false s.start x.end f)
    go false t f = inl (ltb-false x.start s.end t)

-- a slot that overlaps none of a chain goes into it
pub chain_insert : (s : Slot) (lo hi : ℕ) (ss : List Slot) → lo ≤ s.start → s.start < s.end → s.end ≤ hi
    → ((x : Slot) → Mem x ss → overlaps s x ≡ false) → Chain lo ss hi → Chain lo (with_slot s ss) hi
unfolding insert_by
chain_insert s lo hi [] a b d n c = (a, b, d)
chain_insert s lo hi (x ∷ ss) a b d n c =
    go (ltb s.start x.start) refl
    (λ h. chain_insert s x.end hi ss h b d (λ y m. n y (Memᴰ.tail m)) c.2)
    (apart s x (n x (mem_head x ss)))
  where
    go : (t : Bool) → ltb s.start x.start ≡ t → (x.end ≤ s.start → Chain x.end (with_slot s ss) hi)
        → (s.end ≤ x.start) ⊎ (x.end ≤ s.start) → Chain lo (cond t (s ∷ x ∷ ss) (x ∷ with_slot s ss)) hi
    go true t rec (inl h) = (a, b, (h, c.1, c.2))
    go true t rec (inr h) = absurd (omega (arith, ltb-true s.start x.start t))
    go false t rec (inl h) = absurd (omega (arith, ltb-false s.start x.start t))
    go false t rec (inr h) = (c.0, c.1, rec h)

-- ---- the gate numbers in force

-- they are the same whatever streams are held
pub gate_of_streams : (p : Port) (js ks : List Stream) → gate_of p js ≡ gate_of p ks
unfolding gate_of
gate_of_streams p js ks = refl

-- their cycle is the port's own, so slots that are a chain in the one are a chain in the other
pub gate_cycle : (p : Port) (js : List Stream) → (gate_of p js).cycle ≡ p.cycle
unfolding gate_of
gate_cycle p js = refl

pub gate_chain : (p : Port) (js : List Stream) (ss : List Slot) → Chain 0 ss p.cycle
    → Chain 0 ss (gate_of p js).cycle
gate_chain p js ss c = subst (Chain 0 ss) (sym (gate_cycle p js)) c

gate_has_cells : (p : Port) (js : List Stream) → in_range (port_ranges p) ≡ true → 0 < (gate_of p js).cycle
gate_has_cells p js r = omega (arith, gate_cycle p js, (port_in_lem p).0 r)

-- ---- edits: where one is accepted, the desk handed on is sound

pub sound_bare : SoundDesk bare
sound_bare = tt

pub open_sound : (p : Port) (d e : Desk) → SoundDesk d → open_port p d ≡ accepted e → SoundDesk e
unfolding open_port
open_sound p (opened q ss js) e h a = absurd (accepted≢refused (sym a))
open_sound p bare e h a =
    let (r, q) = ((open_says p).accepts e).0 a in
    rw q
    (record {
      port_in = r;
      few_slots = zero-le;
      chain = zero-le;
      some_free = no_slots_free (gate_of p []) (gate_has_cells p [] r);
      few_streams = zero-le;
      streams_in = λ j m. mem_none m;
      ids_rise = tt;
    })

-- other slots beside the same streams
with_slots : (p : Port) (ss ts : List Slot) (js : List Stream) → Sound p ss js → length ts ≤ most_slots
    → Chain 0 ts p.cycle → has_free (gate_of p js) ts ≡ true → Sound p ts js
with_slots p ss ts js h few links free =
    record {
      port_in = h.port_in;
      few_slots = few;
      chain = links;
      some_free = free;
      few_streams = h.few_streams;
      streams_in = h.streams_in;
      ids_rise = h.ids_rise;
    }

pub add_slot_sound : (s : Slot) (d e : Desk) → SoundDesk d → add_slot s d ≡ accepted e → SoundDesk e
unfolding add_slot
add_slot_sound s bare e h a = absurd (accepted≢refused (sym a))
add_slot_sound s (opened p ss js) e h a =
    let (r, few, clear, free, q) = ((add_slot_says s p ss js).accepts e).0 a in
    let (b, c) = (slot_in p.cycle s).0 r in
    rw q
    (with_slots p ss (with_slot s ss) js h
    (omega (arith, length_insert_by (λ x. x.start) s ss))
    (chain_insert s 0 p.cycle ss zero-le b c ((any_false (overlaps s) ss).0 clear) h.chain)
    free)

pub remove_slot_sound : (start : ℕ) (d e : Desk) → SoundDesk d → remove_slot start d ≡ accepted e → SoundDesk e
unfolding remove_slot
remove_slot_sound start bare e h a = absurd (accepted≢refused (sym a))
remove_slot_sound start (opened p ss js) e h a =
    let stays : Slot → Bool = λ x. not (eqb x.start start) in
    let (_, q) = ((remove_slot_says start p ss js).accepts e).0 a in
    rw q
    (with_slots p ss (keep stays ss) js h
    (le_trans (keep_shorter stays ss) h.few_slots)
    (chain_keep stays 0 p.cycle ss h.chain)
    (fewer_slots_free (gate_of p js) ss (keep stays ss) (λ s m. ((keep_mem stays ss s).0 m).0) h.some_free))

-- other streams beside the same slots
with_streams : (p : Port) (ss : List Slot) (js ks : List Stream) → Sound p ss js → length ks ≤ most_streams
    → ((j : Stream) → Mem j ks → in_range (stream_ranges (octet_limit p) j) ≡ true) → RisingBy (λ j. j.id) ks
    → Sound p ss ks
with_streams p ss js ks h few each rises =
    record {
      port_in = h.port_in;
      few_slots = h.few_slots;
      chain = h.chain;
      some_free = rw (gate_of_streams p ks js) h.some_free;
      few_streams = few;
      streams_in = each;
      ids_rise = rises;
    }

pub add_stream_sound : (j : Stream) (d e : Desk) → SoundDesk d → add_stream j d ≡ accepted e → SoundDesk e
unfolding add_stream
add_stream_sound j bare e h a = absurd (accepted≢refused (sym a))
add_stream_sound j (opened p ss js) e h a =
    let (r, few, clear, q) = ((add_stream_says j p ss js).accepts e).0 a in
    rw q
    (with_streams p ss js (with_stream j js) h
    (omega (arith, length_insert_by (λ x. x.id) j js))
    (λ k m. ⊎_elim (λ (t : k ≡ j). rw t r) (h.streams_in k) ((mem_insert_by (λ x. x.id) j js k).0 m))
    (insert_by_rises (λ x. x.id) j js h.ids_rise
    (λ k m t. eqb-false k.id j.id ((any_false _ js).0 clear k m) (sym t))))

pub remove_stream_sound : (id : ℕ) (d e : Desk) → SoundDesk d → remove_stream id d ≡ accepted e → SoundDesk e
unfolding remove_stream others
remove_stream_sound id bare e h a = absurd (accepted≢refused (sym a))
remove_stream_sound id (opened p ss js) e h a =
    let stays : Stream → Bool = λ x. not (eqb x.id id) in
    let (_, q) = ((remove_stream_says id p ss js).accepts e).0 a in
    rw q
    (with_streams p ss js (keep stays js) h
    (le_trans (keep_shorter stays js) h.few_streams)
    (λ j m. h.streams_in j ((keep_mem stays js j).0 m).0)
    (keep_rises (λ x. x.id) stays js h.ids_rise))
