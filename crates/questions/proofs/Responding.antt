-- The answer of the response call, case by case.
-- Assumes nothing.
use mathlib.Core.Path.{◌≡◌, refl, sym, ap, subst, fun_ext, ◌∙◌}
use mathlib.Core.Bool.{Bool, true, false, cond}
use mathlib.Core.List.{List}
use mathlib.Core.Option as M
use Prim.Native.Nat.{ℕ, ◌+◌, ◌≤◌, ◌<◌}
use native.Mathlib.Omega.{arith}
use lib.ListN.{length, get_or}
use lib.Dec.{ltb, eqb}
use borrow.Author.Tests.{eqb-true}
use Rattle.std.specs.Prelude.{Option, None, Some, Result, Ok, Err}
use Rattle.std.specs.Option.{is_some, ok_or}
use Rattle.std.specs.List.{position}
use Rattle.std.proofs.lemmas.List.Quantifiers.{position-Some}
use Rattle.laws.specs.Lists.{any, find, place_by, without, Mem}
use Rattle.laws.specs.Numbers.{Mono}
use Rattle.laws.proofs.Inserting.{find_none}
use Rattle.laws.proofs.Without.{mem_get, place_found}
use Rattle.meaning.specs.declared.Stream.{Stream}
use Rattle.meaning.specs.declared.Refusal.{Refusal}
use Rattle.meaning.specs.declared.Refusal.TheVariants.{NotHeld, Late}
use Rattle.meaning.specs.Ranges.{octet_limit}
use Rattle.meaning.specs.Interference.{interference, by_stairs}
use Rattle.meaning.specs.Response.{others, lower_wire, bound}
use Rattle.meaning.specs.Refusals.{accepted, refused}
use Rattle.meaning.specs.Calls.{bound_of, verdict, respond, ask_response}
use Rattle.meaning.proofs.InRange.{octet_limit_most, port_in_lem, stream_in}
use Rattle.meaning.proofs.Gates.{slots_grow, slots_spread}
use Rattle.meaning.proofs.Windows.{all_at_most_cycle}
use Rattle.table.specs.Lookup.{all_in, stairs_in, stairs_v}
use Rattle.table.proofs.Demand.{all_is, rows_give_interference}
use Rattle.table.proofs.Reached.{all_take, lent_v}
use Rattle.bound.specs.Answers.{response_of, StreamFits, Asks}
use Rattle.bound.proofs.Others.{others_without}
use Rattle.rows.specs.Rows.{no_stream}
use Rattle.rows.proofs.Searching.{place_some, some_any}
use Rattle.entries.proofs.Places.{not_found}
use Rattle.answers.specs.Answers.{answer_of}
use Rattle.desk.specs.declared.Desk.{Desk}
use Rattle.desk.specs.Desks.{held, Fit, port_in, slots_in, streams_in, gate_in, far_in, tot_in}
use Rattle.desk.proofs.OpenFits.{same_cycle, OpenFits, open_fits}
use Rattle.questions.specs.Judged.{judged_by}

-- the test of an id
abbrev pub has_id : ℕ → Stream → Bool
has_id id j = eqb j.id id

-- the verdict of document 01 is what the bound is judged to be
judged_verdict : (i : Stream) (o : M.Option ℕ) → judged_by i.deadline (response_of o) ≡ answer_of (verdict i o)
unfolding judged_by response_of verdict
judged_verdict i M.none = refl
judged_verdict i (M.some r) = go (ltb i.deadline r)
  where
    go : (b : Bool) → cond b (Err (Late r)) (Ok r) ≡ answer_of (cond b (refused (Late r)) (accepted r))
    go true = refl
    go false = refl

-- what a search found, from the answer that is made of it
module _ (id : ℕ) (js : List Stream) (o : Option ℕ) (at : o ≡ position (has_id id) js) where
  pub found_none : (x : Refusal) → Err x ≡ ok_or o NotHeld → (any (has_id id) js ≡ false) × (x ≡ NotHeld)
  found_none x e = not_found (λ (j : Stream). j.id) id js o at NotHeld x e

  pub found_some : (p : ℕ) → Ok p ≡ ok_or o NotHeld → position (has_id id) js ≡ Some p
  found_some p e = sym at ∙ go o e
    where
      go : (q : Option ℕ) → ◌≡◌ {A = Result ℕ Refusal} (Ok p) (ok_or q NotHeld) → q ≡ Some p
      go None g = cc
      go (Some r) g = cc

module _ (d : Desk) (f : Fit d) (o : d.opened ≡ true) (id : ℕ) where
  h : OpenFits d
  h = open_fits d f o

  asked_open : ask_response id (held d) ≡ respond (port_in d) (slots_in d) (streams_in d)
      (find (has_id id) (streams_in d))
  unfolding ask_response
  asked_open = ap (ask_response id) h.holds

  pub not_held : any (has_id id) (streams_in d) ≡ false → ask_response id (held d) ≡ refused NotHeld
  unfolding respond
  not_held e =
      asked_open
      ∙ ap (respond (port_in d) (slots_in d) (streams_in d)) ((find_none (has_id id) (streams_in d)).1 e)

  -- V by the stairs stored is V of the slots held
  same_v : stairs_v d.cycle (far_in d) (tot_in d) ≡ interference (gate_in d) (slots_in d)
  same_v =
      fun_ext (lent_v d.cycle d.far d.tot d.nstairs h.table_fits)
      ∙ ap (λ (n : ℕ). by_stairs n (all_in d.tot d.nstairs) (stairs_in d.far d.tot d.nstairs)) (sym (same_cycle d))
      ∙ fun_ext (rows_give_interference (gate_in d) (slots_in d) d.far d.tot d.nstairs h.stored h.count)

  stream_fits : (j : Stream) → Mem j (streams_in d) → StreamFits j
  stream_fits j m =
      let r = (stream_in (octet_limit (port_in d)) j).0 (h.sound.streams_in j m) in
      record {
        octets_most = omega (arith, octet_limit_most (port_in d));
        period_least = omega arith;
        period_most = omega arith;
        jitter_most = omega arith;
      }

  -- the stream at the place of that id
  module _ (p : ℕ) (at : position (has_id id) (streams_in d) ≡ Some p) where
    abbrev own : Stream
    own = get_or (streams_in d) p no_stream

    abbrev rest : List Stream
    rest = without p (streams_in d)

    pub inside : p < length (streams_in d)
    inside = (place_some (has_id id) (streams_in d) p at).1

    here : p ≡ place_by (has_id id) (streams_in d)
    here = (place_some (has_id id) (streams_in d) p at).0

    is_held : any (has_id id) (streams_in d) ≡ true
    is_held = sym (some_any (has_id id) (streams_in d)) ∙ ap is_some at

    found : find (has_id id) (streams_in d) ≡ M.some own
    found =
        place_found (has_id id) (streams_in d) no_stream is_held
        ∙ ap (λ (k : ℕ). M.some (get_or (streams_in d) k no_stream)) (sym here)

    own_id : own.id ≡ id
    own_id = eqb-true own.id id (position-Some (has_id id) (streams_in d) p no_stream at).1

    the_others : others own.id (streams_in d) ≡ rest
    the_others =
        ap (λ (k : ℕ). others k (streams_in d)) own_id ∙ others_without id (streams_in d) h.sound.ids_rise is_held
        ∙ ap (λ (k : ℕ). without k (streams_in d)) (sym here)

    -- of V and all blocked cells, as they are read from the stairs stored
    module _ (v : ℕ → ℕ) (ve : v ≡ stairs_v d.cycle (far_in d) (tot_in d))
        (all : ℕ) (ae : all ≡ all_in (tot_in d) (length (tot_in d))) where
      v_is : v ≡ interference (gate_in d) (slots_in d)
      v_is = ve ∙ same_v

      -- what is asked of the bound's numbers
      pub asks : Asks d.rate v all (streams_in d) own
      asks =
          let r = (port_in_lem (port_in d)).0 h.sound.port_in in
          let most = all_is (gate_in d) (slots_in d) d.far d.tot d.nstairs h.stored h.count in
          let lent =
          all_take d.tot d.nstairs (omega (arith, h.table_fits.few, h.table_fits.tot_long)) in
          record {
            all_most = omega (arith, same_cycle d, all_at_most_cycle (gate_in d) (slots_in d) h.sound.some_free);
            v_grows = subst Mono (sym v_is) (slots_grow (gate_in d) (slots_in d));
            v_spreads =
                subst (λ (u : ℕ → ℕ). (x y : ℕ) → u (x + y) ≤ u x + u y) (sym v_is)
                (slots_spread (gate_in d) (slots_in d));
            few = omega (arith, h.few_streams, h.streams_count);
            rate_least = omega arith;
            rate_most = omega arith;
            streams_fit = stream_fits;
            own_fits = stream_fits own (mem_get (streams_in d) p no_stream inside);
          }

      same_bound : bound d.rate v (lower_wire d.rate own rest) rest own
          ≡ bound_of (port_in d) (slots_in d) (streams_in d) own
      unfolding bound_of
      same_bound =
          λ i. bound d.rate (v_is i) (lower_wire d.rate own (sym the_others i)) (sym the_others i) own

      -- the bound that was computed is judged as document 01 says
      pub response_open : (x : Option ℕ)
          → x ≡ response_of (bound d.rate v (lower_wire d.rate own rest) rest own)
          → judged_by own.deadline x ≡ answer_of (ask_response id (held d))
      unfolding respond
      response_open x e =
          let o = bound_of (port_in d) (slots_in d) (streams_in d) own in
          ap (judged_by own.deadline) (e ∙ ap response_of same_bound) ∙ judged_verdict own o
          ∙ sym (ap answer_of (asked_open ∙ ap (respond (port_in d) (slots_in d) (streams_in d)) found))
