-- `rows::place` meets its contract: `position` over the slice's iterator finds what it finds in the list,
-- where the closure tests each one's key.
use Rattle.std.proofs.Common.{eqb, rules, tests}
use Rattle.std.proofs.lemmas.Iterator.{YieldsList-from_slice}
use Rattle.std.proofs.lemmas.Iterator.Search.{position_from_yields_List}
use Rattle.rows.proofs.place.Goals as goal

-- What the closure answers of each one is whether its key is the one sought,
-- so that what is found is the first one with that key.
pub returns : goal.returns
returns g c =
    position_from_yields_List (λ x. eqb (g.T.Keyed.key_of x) c.args.key) _ _ c.position.result c.position.ensures.ran
    (YieldsList-from_slice c.args.held.now cc) (λ x b q k. search (rules, tests))
