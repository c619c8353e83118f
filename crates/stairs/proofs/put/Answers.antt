-- `stairs::put` meets its contract. The invariant: node k is low, and all nodes are right but the one above k.
-- The measure: k.
use mathlib.Core.Path.{◌≡◌, sym, ap, ◌∙◌}
use Prim.Native.Nat.{ℕ, ◌/◌}
use native.Mathlib.Omega.{arith}
use lib.ListN.{get_or, length-set}
use lib.Seq.{get_or-set_same}
use Rattle.stairs.proofs.Tree.{put_leaf, mend_node}
use Rattle.stairs.proofs.put.Goals as goal

pub loop-k-preserved : goal.loop-k-preserved
loop-k-preserved c =
    let l = c.loop-k in
    let k = l.k in
    let r = c.min-low in (
      omega arith,
      omega arith,
      length-set l.tree (k / 2) r.result ∙ l.invariant.2,
      get_or-set_same l.tree (k / 2) r.result 0 (omega (arith, l.invariant.2)),
      λ keys s.
          mend_node k l.low r.result (l.invariant.4 keys s) (omega arith) l.invariant.1 l.invariant.3 r.ensures,
    )

pub returns : goal.returns
returns c =
    let l = c.loop-k in
    let a = c.args in
    let e : l.k ≡ 1 = omega (arith, l.invariant.0) in (
      sym l.invariant.3 ∙ ap (λ (x : ℕ). get_or l.tree x 0) e,
      l.invariant.2,
      λ keys s.
          rw (ap (λ (x : ℕ). x / 2) e) at
          (l.invariant.4 _ (put_leaf s a.i a.v c.requires.1 c.requires.2)),
    )
