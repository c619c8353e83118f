-- What the inner functions answer: the runs found in one walk along the slots.
use Rattle.std.specs.Prelude.{◌≡◌, cond, List, [], ◌∷◌, ◌++◌, ℕ, ◌+◌, ◌-◌, ◌≤◌, length, leb, ltb}
use Rattle.meaning.specs.declared.Gate.{Gate}
use Rattle.meaning.specs.declared.Slot.{Slot}
use Rattle.meaning.specs.declared.Run.{Run}
use Rattle.meaning.specs.Promises.{Chain}
use Rattle.meaning.proofs.Chains.{hang_end}
use Rattle.meaning.proofs.ChainCells.{reach_of}
use Rattle.gate.specs.Rows.{GateFits}

-- of each slot, the end of the last slot that hangs together with it before the cycle's end
unfoldable pub hang_ends : ℕ → List Slot → List ℕ
hang_ends k [] = []
hang_ends k (s ∷ ss) = hang_end k s.end ss ∷ hang_ends k ss

-- the run that starts with slot s, where the slots that hang together with it before the cycle's end stop at e. It
-- starts a guard before the slot. If the first slot, one cycle on, hangs on there, it stops where the first slot's do.
unfoldable pub run_with : Gate → ℕ → ℕ → Slot → ℕ → Run
run_with g first far s e =
    record {
      start = cond (ltb s.start g.guard) (s.start + g.cycle - g.guard) (s.start - g.guard);
      len = cond (leb (first + g.cycle) (e + reach_of g)) (far + g.cycle) e + reach_of g - s.start;
    }

-- that run where the gap before slot s is over guard + header, and none otherwise; the slot before s ends at before,
-- one cycle on
unfoldable pub run_if : Gate → ℕ → ℕ → ℕ → Slot → ℕ → List Run
run_if g first far before s e =
    cond (ltb (before + reach_of g) (s.start + g.cycle)) (run_with g first far s e ∷ []) []

-- the runs that start with the slots post, the last of all slots; the slot before them ends at before, one cycle on
unfoldable pub walked : Gate → ℕ → ℕ → ℕ → List Slot → List Run
walked g first far before [] = []
walked g first far before (s ∷ post) =
    run_if g first far before s (hang_end (reach_of g) s.end post) ++ walked g first far (s.end + g.cycle) post

-- what such a walk asks: the slots lie in a chain, and these are the ends of those that hang together with them
pub record WalkFits (g : Gate) (first far before : ℕ) (ss : List Slot) (ends : List ℕ) : Type 0 where
  pub few : length ss ≤ 32
  pub fits : GateFits g
  pub first_in : first ≤ g.cycle
  pub far_in : far ≤ g.cycle
  pub before_in : before ≤ g.cycle + g.cycle
  pub lo : ℕ
  pub chain : Chain lo ss g.cycle
  pub stops : ends ≡ hang_ends (reach_of g) ss
