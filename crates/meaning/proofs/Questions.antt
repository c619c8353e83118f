-- Every question of document 01: each refusal and the answer, as an exactly-when.
-- Assumes nothing.
use mathlib.Core.Path.{◌≡◌, refl, sym, ap, ◌∙◌}
use mathlib.Core.Logic.Iff
use mathlib.Core.Logic.{◌↔◌}
use mathlib.Core.Bool.{Bool, true, false, cond}
use mathlib.Core.List.Memᴰ
use mathlib.Core.List.{List, [], ◌∷◌}
use mathlib.Core.Option.{Option, none, some, some-ne-none}
use Prim.Native.Nat.{ℕ, ◌≤◌, ◌<◌}
use native.Mathlib.Omega.{arith}
use lib.Dec.{ltb, eqb}
use borrow.Author.Tests.{ltb-true, ltb-false, lt-ltb, le-ltb}
use Rattle.laws.specs.Lists.{any, find, Mem}
use Rattle.laws.proofs.Inserting.{find_none}
use Rattle.meaning.specs.declared.Port.{Port}
use Rattle.meaning.specs.declared.Slot.{Slot}
use Rattle.meaning.specs.declared.Stream.{Stream}
use Rattle.meaning.specs.declared.Run.{Run}
use Rattle.meaning.specs.declared.Stair.{Stair}
use Rattle.meaning.specs.declared.Refusal.{Refusal}
use Rattle.meaning.specs.declared.Refusal.TheVariants.{OutOfTurn, NotHeld, Endless, Late, OverHorizon}
use Rattle.meaning.specs.Ranges.{horizon}
use Rattle.meaning.specs.Runs.{gate_of, runs}
use Rattle.meaning.specs.Interference.{interference, stairs}
use Rattle.meaning.specs.Refusals.{number_of, Answer, accepted, refused, ◌⇒◌, unless}
use Rattle.meaning.specs.Desks.{Desk, bare, opened}
use Rattle.meaning.specs.Calls.{ask_runs, ask_stairs, ask_interference, bound_of, verdict, respond, ask_response}
use Rattle.meaning.proofs.Refusing.{tells_ltb, accepted≢refused, accepted_is, number_in, numbers_differ}
use Rattle.meaning.proofs.Refusing.{not_among, one_of_these, none_of_these, stops, passes, passed, turned_away}

-- A record for each call has a field for each number, in the paper's order, then `accepts`, and then `only`: no other
-- number is answered, or `never`: none is, on an open desk.

-- "Asking for runs or stairs: 4."
pub record AskRunsSays (p : Port) (ss : List Slot) (js : List Stream) : Type 0 where
  pub out_of_turn : (d : Desk) → ask_runs d ≡ refused OutOfTurn ↔ (d ≡ bare)
  pub accepts : (rs : List Run) → ask_runs (opened p ss js) ≡ accepted rs ↔ (rs ≡ runs (gate_of p js) ss)
  pub never : (r : Refusal) → ¬ (ask_runs (opened p ss js) ≡ refused r)

pub ask_runs_says : (p : Port) (ss : List Slot) (js : List Stream) → AskRunsSays p ss js
unfolding ask_runs
ask_runs_says p ss js =
    record {
      out_of_turn = turned_away ask_runs refl (λ p ss js. accepted≢refused);
      accepts = λ rs. accepted_is;
      never = λ r. accepted≢refused;
    }

pub record AskStairsSays (p : Port) (ss : List Slot) (js : List Stream) : Type 0 where
  pub out_of_turn : (d : Desk) → ask_stairs d ≡ refused OutOfTurn ↔ (d ≡ bare)
  pub accepts : (st : List Stair) → ask_stairs (opened p ss js) ≡ accepted st ↔ (st ≡ stairs (gate_of p js) ss)
  pub never : (r : Refusal) → ¬ (ask_stairs (opened p ss js) ≡ refused r)

pub ask_stairs_says : (p : Port) (ss : List Slot) (js : List Stream) → AskStairsSays p ss js
unfolding ask_stairs
ask_stairs_says p ss js =
    record {
      out_of_turn = turned_away ask_stairs refl (λ p ss js. accepted≢refused);
      accepts = λ st. accepted_is;
      never = λ r. accepted≢refused;
    }

-- "Interference: 4, 14."
pub record AskInterferenceSays (t : ℕ) (p : Port) (ss : List Slot) (js : List Stream) : Type 0 where
  pub out_of_turn : (d : Desk) → ask_interference t d ≡ refused OutOfTurn ↔ (d ≡ bare)
  pub over_horizon : ask_interference t (opened p ss js) ≡ refused OverHorizon ↔ (horizon < t)
  pub accepts : (v : ℕ) → ask_interference t (opened p ss js) ≡ accepted v
      ↔ ((t ≤ horizon) × (v ≡ interference (gate_of p js) ss t))
  pub only : (r : Refusal) → ask_interference t (opened p ss js) ≡ refused r → Mem (number_of r) (14 ∷ [])

pub ask_interference_says : (t : ℕ) (p : Port) (ss : List Slot) (js : List Stream) → AskInterferenceSays t p ss js
unfolding ask_interference number_of any
ask_interference_says t p ss js =
    record {
      out_of_turn = turned_away (ask_interference t) refl (λ p ss js. none_of_these _ _ _ refl);
      over_horizon = (stops (tells_ltb _ _) refl).exactly;
      accepts = λ v. (passes (tells_ltb _ _) refl passed).exactly;
      only = one_of_these _ _;
    }

-- ---- a bound and its deadline

verdict_endless : (i : Stream) (o : Option ℕ) → verdict i o ≡ refused Endless ↔ (o ≡ none)
unfolding verdict unless any number_of
verdict_endless i none = (λ e. refl, λ e. refl)
verdict_endless i (some r) = (
  λ e. absurd (none_of_these (ltb i.deadline r ⇒ Late r ∷ []) r Endless refl e),
  λ e. absurd (some-ne-none r e),
)

verdict_late : (i : Stream) (o : Option ℕ) (r : ℕ) → verdict i o ≡ refused (Late r)
    ↔ ((o ≡ some r) × (i.deadline < r))
unfolding verdict number_of
verdict_late i o r = (to o, λ (e, h). ap (verdict i) e ∙ rw (lt-ltb i.deadline r h))
  where
    to : (o : Option ℕ) → verdict i o ≡ refused (Late r) → (o ≡ some r) × (i.deadline < r)
    to none e = absurd (numbers_differ refl e)
    to (some k) e = go (ltb i.deadline k) refl e
      where
        go : (b : Bool) → ltb i.deadline k ≡ b → cond b (refused (Late k)) (accepted k) ≡ refused (Late r)
            → (some k ≡ some r) × (i.deadline < r)
        go true t e = let q : k ≡ r = cc in (ap some q, omega (arith, ltb-true i.deadline k t))
        go false t e = absurd (accepted≢refused e)

verdict_accepts : (i : Stream) (o : Option ℕ) (r : ℕ) → verdict i o ≡ accepted r ↔ ((o ≡ some r) × (r ≤ i.deadline))
unfolding verdict number_of
verdict_accepts i o r = (to o, λ (e, h). ap (verdict i) e ∙ rw (le-ltb i.deadline r h))
  where
    to : (o : Option ℕ) → verdict i o ≡ accepted r → (o ≡ some r) × (r ≤ i.deadline)
    to none e = absurd (numbers_differ refl e)
    to (some k) e = go (ltb i.deadline k) refl e
      where
        go : (b : Bool) → ltb i.deadline k ≡ b → cond b (refused (Late k)) (accepted k) ≡ accepted r
            → (some k ≡ some r) × (r ≤ i.deadline)
        go true t e = absurd (accepted≢refused (sym e))
        go false t e = let q : k ≡ r = cc in (ap some q, omega (arith, ltb-false i.deadline k t))

verdict_only : (i : Stream) (o : Option ℕ) (r : Refusal) → verdict i o ≡ refused r → Mem (number_of r) (12 ∷ 13 ∷ [])
unfolding verdict unless number_of
verdict_only i none r e = Memᴰ.head (sym (ap number_in e))
verdict_only i (some k) r e = Memᴰ.tail (one_of_these (ltb i.deadline k ⇒ Late k ∷ []) k r e)

-- ---- the response

module _ (p : Port) (ss : List Slot) (js : List Stream) where
  respond_only : (o : Option Stream) (r : Refusal) → respond p ss js o ≡ refused r
      → Mem (number_of r) (9 ∷ 12 ∷ 13 ∷ [])
  unfolding respond number_of
  respond_only none r e = Memᴰ.head (sym (ap number_in e))
  respond_only (some i) r e = Memᴰ.tail (verdict_only i (bound_of p ss js i) r e)

  respond_not_held : (o : Option Stream) → respond p ss js o ≡ refused NotHeld ↔ (o ≡ none)
  unfolding respond number_of any
  respond_not_held none = (λ e. refl, λ e. refl)
  respond_not_held (some i) = (
    λ e. absurd (not_among 9 _ refl (verdict_only i (bound_of p ss js i) NotHeld e)),
    λ e. absurd (some-ne-none i e),
  )

  -- any other answer is about the stream found
  respond_found : (x : Answer ℕ) → eqb 9 (number_in x) ≡ false → (o : Option Stream)
      → respond p ss js o ≡ x ↔ ((i : Stream) × (o ≡ some i) × (verdict i (bound_of p ss js i) ≡ x))
  unfolding respond number_of
  respond_found x d o = (to o, λ (i, e, v). ap (respond p ss js) e ∙ v)
    where
      to : (o : Option Stream) → respond p ss js o ≡ x
          → (i : Stream) × (o ≡ some i) × (verdict i (bound_of p ss js i) ≡ x)
      to none e = absurd (numbers_differ d e)
      to (some i) e = (i, refl, e)

-- "Response: 4, 9, 12, 13."
pub record AskResponseSays (id : ℕ) (p : Port) (ss : List Slot) (js : List Stream) : Type 0 where
  pub out_of_turn : (d : Desk) → ask_response id d ≡ refused OutOfTurn ↔ (d ≡ bare)
  pub not_held : ask_response id (opened p ss js) ≡ refused NotHeld ↔ (any (λ j. eqb j.id id) js ≡ false)
  pub endless : ask_response id (opened p ss js) ≡ refused Endless
      ↔ ((i : Stream) × (find (λ j. eqb j.id id) js ≡ some i) × (bound_of p ss js i ≡ none))
  pub late : (r : ℕ) → ask_response id (opened p ss js) ≡ refused (Late r)
      ↔ ((i : Stream) × (find (λ j. eqb j.id id) js ≡ some i) × (bound_of p ss js i ≡ some r) × (i.deadline < r))
  pub accepts : (r : ℕ) → ask_response id (opened p ss js) ≡ accepted r
      ↔ ((i : Stream) × (find (λ j. eqb j.id id) js ≡ some i) × (bound_of p ss js i ≡ some r) × (r ≤ i.deadline))
  pub only : (r : Refusal) → ask_response id (opened p ss js) ≡ refused r → Mem (number_of r) (9 ∷ 12 ∷ 13 ∷ [])

pub ask_response_says : (id : ℕ) (p : Port) (ss : List Slot) (js : List Stream) → AskResponseSays id p ss js
unfolding ask_response number_of any
ask_response_says id p ss js =
    let held = find (λ j. eqb j.id id) js in
    record {
      out_of_turn =
          turned_away (ask_response id) refl (λ p ss js e. not_among 4 _ refl (respond_only p ss js _ OutOfTurn e));
      not_held = Iff.trans (respond_not_held p ss js held) (find_none _ js);
      endless =
          let found = respond_found p ss js (refused Endless) refl held in (
            λ a. let (i, e, v) = found.0 a in (i, e, (verdict_endless i _).0 v),
            λ (i, e, b). found.1 (i, e, (verdict_endless i _).1 b),
          );
      late =
          λ r. let found = respond_found p ss js (refused (Late r)) refl held in (
            λ a. let (i, e, v) = found.0 a in let (b, h) = (verdict_late i _ r).0 v in (i, e, b, h),
            λ (i, e, b, h). found.1 (i, e, (verdict_late i _ r).1 (b, h)),
          );
      accepts =
          λ r. let found = respond_found p ss js (accepted r) refl held in (
            λ a. let (i, e, v) = found.0 a in let (b, h) = (verdict_accepts i _ r).0 v in (i, e, b, h),
            λ (i, e, b, h). found.1 (i, e, (verdict_accepts i _ r).1 (b, h)),
          );
      only = respond_only p ss js held;
    }
