-- `bound::response_bound` meets its contract.
use Rattle.search.specs.Searches.{table_of, all_of}
use Rattle.bound.proofs.Asking.{rows_fit, own_fits, rows_asked, rows_answered}
use Rattle.bound.proofs.response_bound.Goals as goal

pub unpack-a-requires : goal.unpack-a-requires
unpack-a-requires c = (c.requires.few, λ j h. (c.requires.streams_fit j h).octets_most)

pub invariant_of-rows : goal.invariant_of-rows
invariant_of-rows c =
    let a = c.args in
    let s = a.stairs.now in
    record {
      fit = rows_fit a.rate (table_of s) (all_of s) a.streams.now a.own a.leave c.requires c.unpack-a.result
          c.unpack-a.ensures;
    }

pub invariant_of-own : goal.invariant_of-own
invariant_of-own c =
    let a = c.args in
    let s = a.stairs.now in
    record {
      fits = own_fits a.rate (table_of s) (all_of s) a.streams.now a.own a.leave c.requires c.unpack-a.result
          c.unpack-a.ensures c.wire_of.result c.wire_of.ensures.0;
    }

pub rows_bound-requires : goal.rows_bound-requires
rows_bound-requires c =
    let a = c.args in
    let s = a.stairs.now in
    rows_asked a.rate (table_of s) (all_of s) a.streams.now a.own a.leave c.requires c.unpack-a.result
    c.unpack-a.ensures c.wire_of.result c.wire_of.ensures.0

pub returns : goal.returns
returns c =
    let a = c.args in
    let s = a.stairs.now in
    rows_answered a.rate (table_of s) (all_of s) a.streams.now a.own a.leave c.requires c.unpack-a.result
    c.unpack-a.ensures c.wire_of.result c.wire_of.ensures.0 c.rows_bound.result c.rows_bound.ensures
