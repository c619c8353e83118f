-- How long the text is at most: every number of a line has few digits, and there are few lines.
-- Assumes nothing.
use mathlib.Core.Path.{◌≡◌, refl, ◌∙◌}
use mathlib.Core.Bool.{Bool, true, false, cond}
use mathlib.Core.List.Memᴰ
use mathlib.Core.List.{List, [], ◌∷◌, ◌++◌}
use mathlib.Core.Option.{Option, none, some}
use Prim.Native.Nat.{ℕ, ◌+◌, ◌-◌, ◌*◌, ◌%◌, ◌^◌, ◌≤◌, ◌<◌}
use Prim.Native.String.{String}
use native.Mathlib.Nat.{mod-lt}
use native.Mathlib.Omega.{arith}
use lib.Dec.{ltb, lit<}
use lib.ListN.{length, length-append}
use Rattle.laws.specs.Lists.{joined, Mem}
use Rattle.laws.proofs.Lists.{mem_head}
use Rattle.laws.proofs.Keeping.{keep_mem}
use Rattle.meaning.specs.declared.Port.{Port}
use Rattle.meaning.specs.declared.Slot.{Slot}
use Rattle.meaning.specs.declared.Stream.{Stream}
use Rattle.meaning.specs.declared.Stair.{Stair}
use Rattle.meaning.specs.Ranges.{horizon, most_slots, most_streams, octet_limit}
use Rattle.meaning.specs.Runs.{gate_of, runs}
use Rattle.meaning.specs.Interference.{all_len, pairs, stairs, interference}
use Rattle.meaning.specs.Response.{others, lower_wire}
use Rattle.meaning.specs.Calls.{bound_of}
use Rattle.meaning.specs.Promises.{Sound}
use Rattle.meaning.specs.Findings.{octets_in, decimal, told, newline, blocked_line, stair_line, verdict_words}
use Rattle.meaning.specs.Findings.{stream_line, desk_lines}
use Rattle.meaning.proofs.Decimals.{decimal_length}
use Rattle.meaning.proofs.InRange.{port_in_lem, stream_in}
use Rattle.meaning.proofs.ChainFree.{runs_few}
use Rattle.meaning.proofs.Windows.{all_at_most_cycle}
use Rattle.meaning.proofs.Stairs.{stairs_are, same_far, same_total}
use Rattle.meaning.proofs.Pairs.{pairs_mem, met_at_most}
use Rattle.meaning.proofs.Gates.{slots_rise, slots_below}
use Rattle.meaning.proofs.Responses.{bound_iff, bound_at_most}
use Rattle.meaning.proofs.Sounds.{gate_cycle, gate_chain}
use Rattle.table.proofs.Demand.{stairs_few}
use Rattle.report.proofs.Stairs.{stair_line_length}

-- ---- digits and words

digits_9 : (n : ℕ) → n ≤ 100_000_000 → length (decimal n) ≤ 9
digits_9 n h = let z : 100_000_000 < 10 ^ 9 = lit< tt in decimal_length 8 n (omega arith)

digits_5 : (n : ℕ) → n ≤ 65_535 → length (decimal n) ≤ 5
digits_5 n h = let z : 65_535 < 10 ^ 5 = lit< tt in decimal_length 4 n (omega arith)

digits_2 : (n : ℕ) → n ≤ 32 → length (decimal n) ≤ 2
digits_2 n h = let z : 32 < 10 ^ 2 = lit< tt in decimal_length 1 n (omega arith)

-- parts of at most k octets each
joined_at_most : {A : Type 0} (part : A → List ℕ) (k : ℕ) (xs : List A) → ((x : A) → Mem x xs → length (part x) ≤ k)
    → length (joined part xs) ≤ k * length xs
unfolding joined
joined_at_most part k [] h = omega arith
joined_at_most part k (x ∷ xs) h =
    omega (
      arith,
      length-append (part x) (joined part xs),
      h x (mem_head x xs),
      joined_at_most part k xs (λ y m. h y (Memᴰ.tail m)),
    )

pub blocked_length : (all cycle n : ℕ)
    → length (blocked_line all cycle n) ≡ 17 + length (decimal all) + length (decimal cycle) + length (decimal n)
unfolding blocked_line told newline octets_in
blocked_length all cycle n =
    length-append (told "blocked " all ++ told " of " cycle ++ told " in " n) newline
    ∙ omega (
      arith,
      length-append (told "blocked " all ++ told " of " cycle) (told " in " n),
      length-append (told "blocked " all) (told " of " cycle),
      length-append (octets_in "blocked ") (decimal all),
      length-append (octets_in " of ") (decimal cycle),
      length-append (octets_in " in ") (decimal n),
    )

-- a word of at most 7 octets, a number of 9 digits, and the deadline
two_told : (word : String) (b deadline : ℕ) → length (octets_in word) ≤ 7 → b ≤ 100_000_000 → deadline ≤ 100_000_000
    → length (told word b ++ told " of " deadline) ≤ 29
unfolding told octets_in
two_told word b deadline w h k =
    omega (
      arith,
      length-append (told word b) (told " of " deadline),
      length-append (octets_in word) (decimal b),
      length-append (octets_in " of ") (decimal deadline),
      digits_9 b h,
      digits_9 deadline k,
    )

-- ---- the lines of a sound desk

module _ (p : Port) (ss : List Slot) (js : List Stream) (s : Sound p ss js) where
  runs_32 : length (runs (gate_of p js) ss) ≤ 32
  unfolding most_slots
  runs_32 = omega (arith, runs_few (gate_of p js) ss (gate_chain p js ss s.chain), s.few_slots)

  all_small : all_len (runs (gate_of p js) ss) ≤ 100_000_000
  all_small =
      let r = (port_in_lem p).0 s.port_in in
      omega (arith, gate_cycle p js, all_at_most_cycle (gate_of p js) ss s.some_free)

  pub first_short : 17 + length (decimal (all_len (runs (gate_of p js) ss))) + length (decimal p.cycle)
      + length (decimal (length (runs (gate_of p js) ss))) ≤ 37
  first_short =
      let r = (port_in_lem p).0 s.port_in in
      omega (
        arith,
        digits_9 (all_len (runs (gate_of p js) ss)) all_small,
        digits_9 p.cycle r.3,
        digits_2 (length (runs (gate_of p js) ss)) runs_32,
      )

  stair_small : (x : Stair) → Mem x (stairs (gate_of p js) ss) → (x.far ≤ 100_000_000) × (x.total ≤ 100_000_000)
  unfolding stairs
  stair_small x m =
      let g = gate_of p js in
      let range = (port_in_lem p).0 s.port_in in
      let among = (stairs_are (pairs g.cycle (runs g ss))).among x m in
      let (r, q, mr, mq, e) = (pairs_mem g.cycle (runs g ss) (slots_rise g ss) (slots_below g ss) x).0 among in
      let same = gate_cycle p js in
      let far = mod-lt (q.start + (g.cycle - r.start)) {m = g.cycle} (omega arith) in
      let total = met_at_most g.cycle (runs g ss) r.start ((q.start + (g.cycle - r.start)) % g.cycle) in
      (omega (arith, same_far e), omega (arith, same_total e, all_small))

  pub stairs_short : length (joined stair_line (stairs (gate_of p js) ss)) ≤ 25_818
  stairs_short =
      omega (
        arith,
        stairs_few (gate_of p js) ss runs_32,
        joined_at_most stair_line 26 (stairs (gate_of p js) ss)
            (λ x m.
            let (far, total) = stair_small x m in
            omega (arith, stair_line_length x, digits_9 x.far far, digits_9 x.total total)),
      )

  bound_small : (j : Stream) (b : ℕ) → Mem j js → bound_of p ss js j ≡ some b → b ≤ 100_000_000
  unfolding bound_of others horizon
  bound_small j b m e =
      let pos : (i : Stream) → Mem i js → 0 < i.period =
      λ i k. let r = (stream_in (octet_limit p) i).0 (s.streams_in i k) in omega arith in
      let rest = others j.id js in
      let rest-pos : (i : Stream) → Mem i rest → 0 < i.period = λ i k. pos i ((keep_mem _ js i).0 k).0 in
      bound_at_most p.rate (interference (gate_of p js) ss) (lower_wire p.rate j rest) rest j rest-pos
      ((bound_iff p.rate (interference (gate_of p js) ss) (lower_wire p.rate j rest) rest j rest-pos (pos j m) b).0
      e)

  verdict_short : (j : Stream) (b : Option ℕ) → Mem j js → bound_of p ss js j ≡ b → length (verdict_words j b) ≤ 29
  unfolding verdict_words octets_in
  verdict_short j none m e = omega arith
  verdict_short j (some b) m e = go (ltb j.deadline b)
    where
      due : j.deadline ≤ 100_000_000
      due = ((stream_in (octet_limit p) j).0 (s.streams_in j m)).8

      go : (late : Bool) → length (told (cond late " late " " bound ") b ++ told " of " j.deadline) ≤ 29
      go true = two_told " late " b j.deadline (omega arith) (bound_small j b m e) due
      go false = two_told " bound " b j.deadline (omega arith) (bound_small j b m e) due

  stream_short : (j : Stream) → Mem j js → length (stream_line j (bound_of p ss js j)) ≤ 42
  unfolding stream_line told newline octets_in
  stream_short j m =
      let words = verdict_words j (bound_of p ss js j) in
      omega (
        arith,
        length-append (told "stream " j.id ++ words) newline,
        length-append (told "stream " j.id) words,
        length-append (octets_in "stream ") (decimal j.id),
        digits_5 j.id ((stream_in (octet_limit p) j).0 (s.streams_in j m)).0,
        verdict_short j (bound_of p ss js j) m refl,
      )

  pub streams_short : length (joined (λ j. stream_line j (bound_of p ss js j)) js) ≤ 2_688
  unfolding most_streams
  streams_short =
      omega (arith, s.few_streams, joined_at_most (λ j. stream_line j (bound_of p ss js j)) 42 js stream_short)

  -- the whole text
  pub lines_short : length (desk_lines p ss js) ≤ 28_543
  unfolding desk_lines
  lines_short =
      let g = gate_of p js in
      let first = blocked_line (all_len (runs g ss)) p.cycle (length (runs g ss)) in
      let rows = joined stair_line (stairs g ss) in
      omega (
        arith,
        length-append (first ++ rows) (joined (λ j. stream_line j (bound_of p ss js j)) js),
        length-append first rows,
        blocked_length (all_len (runs g ss)) p.cycle (length (runs g ss)),
        first_short,
        stairs_short,
        streams_short,
      )
