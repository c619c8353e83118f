-- `lines::texts::places` meets its contract: the power of ten below the number says how many digits it has.
use native.Mathlib.Omega.{arith}
use borrow.Author.Rules.{rules}
use Rattle.lines.proofs.Digits.{decimal_places}
use Rattle.lines.proofs.texts.places.Goals as goal

pub returns : goal.returns
returns c = decimal_places c.args.n c.max.result c.ilog10.result (omega arith) (search rules) (search rules)
