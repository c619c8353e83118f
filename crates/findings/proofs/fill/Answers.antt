-- `findings::fill` meets its contract: what is read goes behind what was read before.
-- Assumes nothing.
use Rattle.std.proofs.Common.{◌≡◌, ◌+◌, List, ℕ, ◌++◌, take, drop, rules, sym, ap, ◌∙◌, subst}
use Rattle.std.proofs.Math.Seq.{take-add}
use Rattle.std.proofs.KnownBytes.{Consumes-trans}
use Rattle.std.specs.Io.KnownBytes.{Consumes}
use Rattle.findings.proofs.fill.Goals as goal

-- the first n octets, which are kept, and k behind them
two_parts : (n k : ℕ) (old new : List ℕ) → take n new ≡ take n old
    → take n old ++ take k (drop n new) ≡ take (n + k) new
two_parts n k old new kept = ap (λ xs. xs ++ take k (drop n new)) (sym kept) ∙ sym (take-add n k new)

pub loop-n-preserved : goal.loop-n-preserved
loop-n-preserved g c = (
  search rules,
  search rules,
  subst (Consumes _ _) (two_parts c.loop-n.n c.in_ok-k.k c.loop-n.buf c.more.new.buf c.more.ensures.kept)
      (Consumes-trans _ _ _ _ _ c.loop-n.invariant.2 c.in_ok-k.ensures.octets.0),
)
