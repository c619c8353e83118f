-- The row in which runs are answered.
-- Assumes nothing.
use mathlib.Core.Path.{◌≡◌, refl, ap, ◌∙◌}
use mathlib.Core.List.{List, [], ◌∷◌, ◌++◌}
use Prim.Native.Nat.{ℕ, ◌+◌, ◌<◌}
use native.Mathlib.Omega.{arith}
use lib.ListN.{length, take, set, replicate, length-append}
use Rattle.laws.specs.Lists.{filled}
use Rattle.meaning.specs.declared.Run.{Run}
use Rattle.gate.specs.declared.RunRow.{RunRow}
use Rattle.gate.specs.Rows.{no_run, run_row}
use Rattle.laws.proofs.Filling.{Filling, filling_end}
use Rattle.laws.proofs.Rows.{filled_push, filled_take}

pub row_none : record { n = 0; row = replicate 32 no_run } ≡ run_row []
unfolding run_row filled
row_none = refl

-- what a loop has appended when none is left
pub row_filled : {row : List Run} {m : ℕ} {left rs : List Run} → Filling 32 no_run row m left rs → left ≡ []
    → record { n = m; row = row } ≡ run_row rs
unfolding run_row
row_filled f none = let (count, places) = filling_end f none in λ i. record { n = count i; row = places i }

pub row_count : (rs : List Run) {row : RunRow} → row ≡ run_row rs → row.n ≡ length rs
unfolding run_row
row_count rs e = ap (λ (r : RunRow). r.n) e

-- the runs that it holds
pub row_runs : (rs : List Run) {row : RunRow} → row ≡ run_row rs → take row.n row.row ≡ rs
unfolding run_row
row_runs rs e = ap (λ (r : RunRow). take r.n r.row) e ∙ filled_take 32 no_run rs

-- one more run, behind the others
pub row_more : (rs : List Run) {row : RunRow} {r x : Run} → row ≡ run_row rs → r ≡ x → length rs < 32
    → record { n = row.n + 1; row = set row.row row.n r } ≡ run_row (rs ++ x ∷ [])
unfolding run_row
row_more rs {row} {r} {x} e q h = rw (e, q) (λ i. record { n = count i; row = filled_push 32 no_run rs x h i })
  where
    count : length rs + 1 ≡ length (rs ++ x ∷ [])
    count = omega (arith, length-append rs (x ∷ []))
