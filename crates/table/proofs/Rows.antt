-- Stairs as rows: none, and one more behind the others.
-- Assumes nothing.
use mathlib.Core.Path.{◌≡◌, sym, ap, ◌∙◌}
use mathlib.Core.List.{List, [], ◌∷◌, ◌++◌, map, map-append}
use Prim.Native.Nat.{ℕ, ◌+◌, ◌<◌}
use native.Mathlib.Omega.{arith}
use lib.ListN.{length, set, replicate, length-append, length-map}
use Rattle.laws.specs.Lists.{filled}
use Rattle.laws.proofs.Rows.{filled_none, filled_push}
use Rattle.meaning.specs.declared.Stair.{Stair}
use Rattle.table.specs.declared.Table.{Table}
use Rattle.table.specs.Rows.{table_of}

abbrev pub table_with : ℕ → List ℕ → List ℕ → Table
table_with n far tot = record { n = n; far = far; tot = tot }

pub table_none : table_of [] ≡ table_with 0 (replicate 993 0) (replicate 993 0)
unfolding table_of
table_none = λ i. record { n = 0; far = filled_none 993 0 i; tot = filled_none 993 0 i }

-- one stair more
abbrev pub grown : Table → ℕ → ℕ → Table
grown x far total = table_with (x.n + 1) (set x.far x.n far) (set x.tot x.n total)

pub table_next : (st : List Stair) (x : Stair) → length st < 993
    → table_of (st ++ x ∷ []) ≡ grown (table_of st) x.far x.total
unfolding table_of
table_next st x h =
    λ i. record {
      n = count i;
      far = row (λ (y : Stair). y.far) i;
      tot = row (λ (y : Stair). y.total) i;
    }
  where
    count : length (st ++ x ∷ []) ≡ length st + 1
    count = length-append st (x ∷ [])

    row : (g : Stair → ℕ) → filled 993 0 (map g (st ++ x ∷ [])) ≡ set (filled 993 0 (map g st)) (length st) (g x)
    row g =
        ap (filled 993 0) (map-append g st (x ∷ []))
        ∙ sym (filled_push 993 0 (map g st) (g x) (omega (arith, length-map st g)))
        ∙ ap (λ (k : ℕ). set (filled 993 0 (map g st)) k (g x)) (length-map st g)
