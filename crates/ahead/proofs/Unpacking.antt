-- The rows of numbers of the streams ahead, as far as a loop over the places of the streams has come.
-- Assumes nothing.
use mathlib.Core.Path.{◌≡◌, refl, sym, ap, ◌∙◌}
use mathlib.Core.List.{List, [], ◌∷◌, ◌++◌, map, map-append}
use Prim.Native.Nat.{ℕ, ◌+◌, ◌≤◌, ◌<◌, max}
use native.Mathlib.Omega.{arith}
use lib.ListN.{length, get_or, take, set, replicate, length-append, length-map}
use borrow.Author.Tests.{le-leb, lt-leb, lt-ltb, le-ltb}
use Rattle.laws.specs.Lists.{keep, largest, without, filled}
use Rattle.laws.proofs.Rows.{filled_push}
use Rattle.laws.proofs.Without.{without_start, without_here, without_next, keep_takes, keep_leaves, largest_more}
use Rattle.meaning.specs.declared.Stream.{Stream}
use Rattle.meaning.specs.Wire.{wire_time}
use Rattle.meaning.specs.Response.{ahead, lower_wire}
use Rattle.ahead.specs.declared.Ahead.{Ahead}
use Rattle.ahead.specs.Unpacked.{ahead_of, pushed}

-- rows with the same numbers are the same
pub same_rows : {k k' l l' : ℕ} {ps ps' js js' cs cs' : List ℕ}
    → k ≡ k' → ps ≡ ps' → js ≡ js' → cs ≡ cs' → l ≡ l'
    → ◌≡◌ {A = Ahead} (record { n = k; per = ps; jit = js; cost = cs; lower = l })
    (record { n = k'; per = ps'; jit = js'; cost = cs'; lower = l' })
same_rows n p j c l = λ i. record { n = n i; per = p i; jit = j i; cost = c i; lower = l i }

-- ---- the streams seen, one by one

-- no stream seen
abbrev no_rows : Ahead
no_rows = record { n = 0; per = replicate 64 0; jit = replicate 64 0; cost = replicate 64 0; lower = 0 }

none_ahead : (rate : ℕ) (own : Stream) → no_rows ≡ ahead_of rate own []
unfolding ahead_of ahead lower_wire keep largest filled
none_ahead rate own = refl

-- a row with the number of one stream more
row_more : (f : Stream → ℕ) (js : List Stream) (s : Stream) → length js < 64
    → set (filled 64 0 (map f js)) (length js) (f s) ≡ filled 64 0 (map f (js ++ (s ∷ [])))
row_more f js s h =
    rw (map-append f js (s ∷ []), ← length-map js f)
    (filled_push 64 0 (map f js) (f s) (omega (arith, length-map js f)))

-- the rows with a larger L
abbrev raised : Ahead → ℕ → Ahead
raised a c = record { n = a.n; per = a.per; jit = a.jit; cost = a.cost; lower = max a.lower c }

module _ (rate : ℕ) (own s : Stream) (seen : List Stream) where
  one_ahead : (a : Ahead) → a ≡ ahead_of rate own seen → own.priority ≤ s.priority → a.n < 64
      → pushed a s.period s.jitter (wire_time rate s.octets) ≡ ahead_of rate own (seen ++ (s ∷ []))
  unfolding ahead_of ahead lower_wire
  one_ahead a e h room =
      let js = ahead own seen in
      let few : length js < 64 = omega (arith, ap (λ (x : Ahead). x.n) e) in
      let more : length js + 1 ≡ length (js ++ (s ∷ [])) = omega (arith, length-append js (s ∷ [])) in
      rw (e, keep_takes _ seen s (le-leb own.priority s.priority h))
      (rw (keep_leaves _ seen s (le-ltb s.priority own.priority h))
      (same_rows more (row_more (λ j. j.period) js s few) (row_more (λ j. j.jitter) js s few)
      (row_more (λ j. wire_time rate j.octets) js s few) refl))

  one_lower : (a : Ahead) → a ≡ ahead_of rate own seen → s.priority < own.priority
      → raised a (wire_time rate s.octets) ≡ ahead_of rate own (seen ++ (s ∷ []))
  unfolding ahead_of ahead lower_wire
  one_lower a e h =
      rw (e, keep_leaves _ seen s (lt-leb own.priority s.priority h))
      (rw (keep_takes _ seen s (lt-ltb s.priority own.priority h), largest_more))

-- ---- the places, one by one

-- a stream whose numbers are all 0
abbrev pub no_stream : Stream
no_stream = record { id = 0; priority = 0; octets = 0; period = 0; jitter = 0; deadline = 0 }

module _ (rate : ℕ) (own : Stream) (leave : ℕ) (streams : List Stream) where
  -- the rows of the places before place i, all but the one that is left out
  abbrev pub up_to : ℕ → Ahead
  up_to i = ahead_of rate own (without leave (take i streams))

  pub unpack_start : no_rows ≡ up_to 0
  unpack_start = none_ahead rate own ∙ ap (ahead_of rate own) (sym (without_start leave streams))

  -- past place i: the place that is left out, a stream of equal or higher priority, one of lower priority
  module _ (i : ℕ) {a : Ahead} (e : a ≡ up_to i) where
    pub unpack_here : i ≡ leave → a ≡ up_to (i + 1)
    unpack_here h = e ∙ rw h (ap (ahead_of rate own) (sym (without_here leave streams)))

    module _ (other : ¬ (i ≡ leave)) (inside : i < length streams) (s : Stream) (is : s ≡ get_or streams i no_stream)
        {c : ℕ} (wire : c ≡ wire_time rate s.octets) where
      pub unpack_ahead : own.priority ≤ s.priority → a.n < 64 → pushed a s.period s.jitter c ≡ up_to (i + 1)
      unpack_ahead h room =
          rw (wire, without_next leave i streams no_stream other inside, ← is) (one_ahead rate own s _ a e h room)

      pub unpack_lower : s.priority < own.priority → raised a c ≡ up_to (i + 1)
      unpack_lower h =
          rw (wire, without_next leave i streams no_stream other inside, ← is) (one_lower rate own s _ a e h)
