-- The keys of the rows' heads.
-- Assumes nothing.
use mathlib.Core.Path.{◌≡◌, sym, ap, ap₂, ◌∙◌}
use mathlib.Core.Logic.{inl, inr, by_cases}
use mathlib.Core.List.{List}
use Prim.Native.Nat.{ℕ, suc, ◌+◌, ◌-◌, ◌%◌, ◌≤◌, ◌<◌}
use native.Mathlib.Nat.{mod-lt}
use native.Mathlib.Decide.{dec_lt}
use native.Mathlib.Omega.{arith}
use lib.ListN.{length, get_or}
use borrow.Author.Tests.{lt-ltb, le-ltb}
use Rattle.meaning.specs.declared.Run.{Run}
use Rattle.meaning.specs.declared.Stair.{Stair}
use Rattle.meaning.specs.Runs.{dist}
use Rattle.laws.proofs.Without.{mem_get}
use Rattle.meaning.proofs.PairLoop.{no_run, turned, pair_at, length_turned, total_turned, turned_at, total_next}
use Rattle.meaning.proofs.PairLoop.{total_part}
use Rattle.meaning.proofs.StairsLoop.{Ahead}
use Rattle.stairs.specs.Rows.{RunsFit}
use Rattle.stairs.specs.Heads.{key_of, far_of, total_of, done, head_key, Moving}

-- ---- a pair's key

module _ (d t : ℕ) (h : t ≤ 134_217_727) where
  pub key_far : far_of (key_of d t) ≡ d
  unfolding key_of
  key_far = omega arith

  pub key_total : total_of (key_of d t) ≡ t
  unfolding key_of
  key_total = omega arith

-- the smaller key comes first
pub key_order : (p q : Stair) → p.total ≤ 134_217_727 → q.total ≤ 134_217_727
    → key_of p.far p.total ≤ key_of q.far q.total → Ahead p q
unfolding key_of
key_order p q hp hq h = by_cases (dec_lt p.far q.far) (λ l. inl l) (λ l. inr (omega arith, omega arith))

key_live : (d t : ℕ) → d < 134_217_728 → key_of d t < done
unfolding key_of done
key_live d t h = omega arith

-- ---- a head's key

module _ (cycle : ℕ) (rs : List Run) (i j : ℕ) where
  pub head_live : i < length rs → j < length rs
      → head_key cycle rs i j ≡ key_of (pair_at cycle rs i j).far (pair_at cycle rs i j).total
  unfolding head_key
  head_live hi hj = rw (lt-ltb i (length rs) hi, lt-ltb j (length rs) hj)

  pub head_ended : ¬ ((i < length rs) × (j < length rs)) → head_key cycle rs i j ≡ done
  unfolding head_key
  head_ended h =
      by_cases (dec_lt i (length rs))
      (λ hi. by_cases (dec_lt j (length rs)) (λ hj. absurd (h (hi, hj)))
      (λ hj. rw (lt-ltb i (length rs) hi, le-ltb j (length rs) (omega arith))))
      (λ hi. rw (le-ltb i (length rs) (omega arith)))

-- what the runs say of a pair's numbers
module _ {cycle : ℕ} {rs : List Run} (f : RunsFit cycle rs) (i j : ℕ) where
  pub pair_far_fits : (pair_at cycle rs i j).far < 100_000_000
  unfolding pair_at
  pair_far_fits =
      let s = (get_or rs i no_run).start in
      omega (
        arith,
        mod-lt ((get_or (turned rs i) j no_run).start + (cycle - s)) {m = cycle} (omega (arith, f.some_cells)),
        f.in_horizon,
      )

  pub pair_total_fits : (pair_at cycle rs i j).total ≤ 100_000_000
  unfolding pair_at
  pair_total_fits =
      omega (arith, total_part (turned rs i) (suc j), total_turned rs i, f.all_fit, f.in_horizon)

  -- a head that is not done has a pair left
  pub not_done : ¬ (head_key cycle rs i j ≡ done) → (i < length rs) × (j < length rs)
  not_done h =
      by_cases (dec_lt i (length rs))
      (λ hi. by_cases (dec_lt j (length rs)) (λ hj. (hi, hj))
      (λ hj. absurd (h (head_ended cycle rs i j (λ k. hj k.1)))))
      (λ hi. absurd (h (head_ended cycle rs i j (λ k. hi k.0))))

  -- and one that is done has none
  pub is_done : done ≤ head_key cycle rs i j → i < length rs → length rs ≤ j
  is_done h hi =
      by_cases (dec_lt j (length rs))
      (λ hj. absurd (omega (
        arith,
        head_live cycle rs i j hi hj,
        key_live (pair_at cycle rs i j).far (pair_at cycle rs i j).total (omega (arith, pair_far_fits)),
      )))
      (λ hj. omega arith)

-- ---- where a row moves to

pub start_below : {cycle : ℕ} {rs : List Run} → RunsFit cycle rs → (k : ℕ) → k < length rs
    → (get_or rs k no_run).start < cycle
start_below {rs = rs} f k h = f.below (get_or rs k no_run) (mem_get rs k no_run h)

module _ {cycle i j t : ℕ} {rs : List Run} (m : Moving cycle rs i j t) where
  -- the run met there, and its pair
  module _ (h : j < length rs) (k : ℕ) (e : k ≡ (i + j) % length rs) where
    run_met : get_or (turned rs i) j no_run ≡ get_or rs k no_run
    run_met = turned_at rs i j m.row h ∙ ap (λ (x : ℕ). get_or rs x no_run) (sym e)

    head_far : dist cycle (get_or rs i no_run).start (get_or rs k no_run).start ≡ (pair_at cycle rs i j).far
    unfolding pair_at
    head_far = ap (λ (r : Run). dist cycle (get_or rs i no_run).start r.start) (sym run_met)

    head_total : t + (get_or rs k no_run).len ≡ (pair_at cycle rs i j).total
    unfolding pair_at
    head_total =
        omega (
          arith,
          m.passed,
          total_next (turned rs i) j (omega (arith, length_turned rs i)),
          ap (λ (r : Run). r.len) run_met,
        )

    pub head_at_most : t + (get_or rs k no_run).len ≤ 100_000_000
    head_at_most = omega (arith, head_total, pair_total_fits m.fits i j)

    pub head_key_lem : (d : ℕ) → d ≡ dist cycle (get_or rs i no_run).start (get_or rs k no_run).start
        → key_of d (t + (get_or rs k no_run).len) ≡ head_key cycle rs i j
    head_key_lem d ed = ap₂ key_of (ed ∙ head_far) head_total ∙ sym (head_live cycle rs i j m.row h)

  pub head_done : length rs ≤ j → done ≡ head_key cycle rs i j
  head_done h = sym (head_ended cycle rs i j (λ k. omega arith))
