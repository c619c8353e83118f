-- Stairs as two rows of numbers.
use Rattle.std.specs.Prelude.{List, map, length}
use Rattle.laws.specs.Lists.{filled}
use Rattle.meaning.specs.declared.Stair.{Stair}
use Rattle.table.specs.declared.Table.{Table}

-- the stairs in a table: how many, their distances and their totals, and 0 in the places left
unfoldable pub table_of : List Stair → Table
table_of st = record {
  n = length st;
  far = filled 993 0 (map (λ x. x.far) st);
  tot = filled 993 0 (map (λ x. x.total) st);
}
