-- `rows::insert` meets its contract: the loop opens a gap from the first free place down to the place of x.
use Rattle.std.proofs.Common.{◌≡◌, ◌≤◌, ◌+◌, ◌-◌, ◌∙◌, ℕ, List, ap, sym, arith, ltb}
use Rattle.std.proofs.Common.{length, take, get_or, position, length-take-le}
use Rattle.std.specs.Prelude.{Option}
use Rattle.std.specs.Option.{unwrap_or}
use Rattle.laws.specs.Lists.{place_by}
use Rattle.laws.proofs.Shifting.{open_start, open_next, open_end}
use Rattle.rows.proofs.Searching.{place_or_end, place_most}
use Rattle.rows.proofs.insert.Goals as goal

-- the place of the new one
new_place : {A : Type 0} (key : A → ℕ) (a : A) (l : List A) (n k p : ℕ) (found : Option ℕ) → n ≤ length l → k ≡ key a
    → found ≡ position (λ y. ltb k (key y)) (take n l) → p ≡ unwrap_or found n
    → (p ≡ place_by (λ y. ltb (key a) (key y)) (take n l)) × (p ≤ n)
new_place key a l n k p found h e f q =
    let held : length (take n l) ≡ n = length-take-le n l h in
    let at : p ≡ place_by (λ y. ltb (key a) (key y)) (take n l) =
    q
    ∙ ap (λ o. unwrap_or o n) (f ∙ ap (λ j. position (λ y. ltb j (key y)) (take n l)) e)
    ∙ place_or_end (λ y. ltb (key a) (key y)) (take n l) n held in
    (at, omega (arith, place_most (λ y. ltb (key a) (key y)) (take n l)))

pub loop-i-init : goal.loop-i-init
loop-i-init g c =
    let l = c.args.row.now in
    let n = c.args.n in
    let at =
    new_place g.T.Keyed.key_of c.args.x l n _ _ _ (omega arith) c.key.ensures c.first_larger.ensures
    c.unwrap_or-p.ensures in
    open_start l n c.unwrap_or-p.result at.1 (omega arith)

pub loop-i-preserved : goal.loop-i-preserved
loop-i-preserved g c =
    let row = c.loop-i.row in
    let i = c.loop-i.i in
    let x = c.index-row-i.result in
    let here : get_or row (i - 1) x ≡ x = sym c.index-row-i.is in
    let next : i - 1 + 1 ≡ i = omega arith in
    let step =
    open_next c.args.row.now c.args.n c.unwrap_or-p.result row i x (omega arith) (omega arith) c.loop-i.invariant in
    rw next (rw here at step)

pub returns : goal.returns
returns g c =
    let l = c.args.row.now in
    let n = c.args.n in
    let key = g.T.Keyed.key_of in
    let at =
    new_place key c.args.x l n _ _ _ (omega arith) c.key.ensures c.first_larger.ensures c.unwrap_or-p.ensures in
    open_end (length l) g.T.Keyed.free_place key c.args.x l n _ c.loop-i.row c.loop-i.i
    (omega arith) c.requires.1 at.0 (omega arith) c.loop-i.invariant
