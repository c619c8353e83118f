-- The other streams: those of another id are the streams without the place of that id.
-- Assumes nothing.
use mathlib.Core.Path.{◌≡◌}
use mathlib.Core.Bool.{true}
use mathlib.Core.List.{List}
use Prim.Native.Nat.{ℕ}
use lib.Dec.{eqb}
use Rattle.laws.specs.Lists.{any, place_by, without, RisingBy}
use Rattle.laws.proofs.Without.{keep_without}
use Rattle.meaning.specs.declared.Stream.{Stream}
use Rattle.meaning.specs.Response.{others}

pub others_without : (id : ℕ) (js : List Stream) → RisingBy (λ j. j.id) js → any (λ j. eqb j.id id) js ≡ true
    → others id js ≡ without (place_by (λ j. eqb j.id id) js) js
unfolding others
others_without id js rise held = keep_without (λ j. j.id) id js rise
