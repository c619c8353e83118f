-- Document 01, "Figures to hold": P1 to P8 and P10 as one statement, and input F.
use Rattle.std.specs.Prelude.{◌≡◌, List, [], ◌∷◌, ℕ, ◌≤◌, length}
use Rattle.std.proofs.Math.Option.{some}
use Rattle.meaning.specs.declared.Port.{Port}
use Rattle.meaning.specs.declared.Gate.{Gate}
use Rattle.meaning.specs.declared.Slot.{Slot}
use Rattle.meaning.specs.declared.Stream.{Stream}
use Rattle.meaning.specs.declared.Run.{Run}
use Rattle.meaning.specs.declared.Stair.{Stair}
use Rattle.meaning.specs.declared.Refusal.TheVariants.{CutShort, OutOfTurn, NoFreeCell, Late, OverHorizon}
use Rattle.meaning.specs.Wire.{wire_time}
use Rattle.meaning.specs.Interference.{interference}
use Rattle.meaning.specs.Response.{window, response}
use Rattle.meaning.specs.Refusals.{accepted, refused}
use Rattle.meaning.specs.Desks.{Desk, opened}
use Rattle.meaning.specs.Calls.{add_slot, ask_runs, ask_stairs, ask_interference, ask_response, bound_of}
use Rattle.meaning.specs.Bytes.{read_plan, read, refused_at, write_plan}

abbrev pub slot : ℕ → ℕ → Slot
slot a e = record { start = a; end = e }

abbrev pub run : ℕ → ℕ → Run
run s l = record { start = s; len = l }

abbrev pub stair : ℕ → ℕ → Stair
stair d t = record { far = d; total = t }

-- "Input F, in hex"
unfoldable pub octets_f : List ℕ
octets_f =
    0x01 ∷ 0x00 ∷ 0x0D ∷ 0x02 ∷ 0x00 ∷ 0x01 ∷ 0x86 ∷ 0xA0 ∷ 0x00 ∷ 0x00 ∷ 0x03 ∷ 0xE8 ∷ 0x00 ∷ 0x00 ∷ 0x01 ∷ 0xF4
    ∷ 0x02 ∷ 0x00 ∷ 0x08 ∷ 0x00 ∷ 0x00 ∷ 0x27 ∷ 0x10 ∷ 0x00 ∷ 0x00 ∷ 0x36 ∷ 0xB0
    ∷ 0x02 ∷ 0x00 ∷ 0x08 ∷ 0x00 ∷ 0x00 ∷ 0x75 ∷ 0x30 ∷ 0x00 ∷ 0x00 ∷ 0x7E ∷ 0xF4
    ∷ 0x02 ∷ 0x00 ∷ 0x08 ∷ 0x00 ∷ 0x00 ∷ 0xEA ∷ 0x60 ∷ 0x00 ∷ 0x01 ∷ 0x0B ∷ 0x94
    ∷ 0x03 ∷ 0x00 ∷ 0x11 ∷ 0x00 ∷ 0x01 ∷ 0x06 ∷ 0x00 ∷ 0x75
    ∷ 0x00 ∷ 0x03 ∷ 0x0D ∷ 0x40 ∷ 0x00 ∷ 0x00 ∷ 0x00 ∷ 0x00 ∷ 0x00 ∷ 0x00 ∷ 0xC3 ∷ 0x50
    ∷ 0x03 ∷ 0x00 ∷ 0x11 ∷ 0x00 ∷ 0x02 ∷ 0x03 ∷ 0x00 ∷ 0xF2
    ∷ 0x00 ∷ 0x06 ∷ 0x1A ∷ 0x80 ∷ 0x00 ∷ 0x00 ∷ 0x00 ∷ 0x00 ∷ 0x00 ∷ 0x00 ∷ 0x9C ∷ 0x40
    ∷ []

abbrev pub port_f : Port
port_f = record { rate = 2; cycle = 100_000; guard = 1_000; header = 500 }

abbrev pub slots_f : List Slot
slots_f = slot 10_000 14_000 ∷ slot 30_000 32_500 ∷ slot 60_000 68_500 ∷ []

abbrev pub stream_f₁ : Stream
stream_f₁ = record { id = 1; priority = 6; octets = 117; period = 200_000; jitter = 0; deadline = 50_000 }

abbrev pub stream_f₂ : Stream
stream_f₂ = record { id = 2; priority = 3; octets = 242; period = 400_000; jitter = 0; deadline = 40_000 }

abbrev pub desk_f : Desk
desk_f = opened port_f slots_f (stream_f₁ ∷ stream_f₂ ∷ [])

-- "cycle 1,000, guard 100, header 50", at any rate, with these slots
abbrev pub desk₄ : ℕ → List Slot → Desk
desk₄ rate ss = opened (record { rate = rate; cycle = 1_000; guard = 100; header = 50 }) ss []

-- "code 2": a port with any gate numbers
abbrev pub port₈ : Gate → Port
port₈ g = record { rate = 2; cycle = g.cycle; guard = g.guard; header = g.header }

-- "117 octets, period 20,000, jitter 30,000", with any id, priority and deadline
abbrev pub stream₈ : ℕ → ℕ → ℕ → Stream
stream₈ id priority deadline =
    record {
      id = id;
      priority = priority;
      octets = 117;
      period = 20_000;
      jitter = 30_000;
      deadline = deadline;
    }

pub record Figures : Type 0 where
  pub p1 : (wire_time 2 64 ≡ 5_760) × (wire_time 4 64 ≡ 231) × (wire_time 5 64 ≡ 58)
  -- F is its 89 octets: they read as F's desk, and F's desk writes as those octets
  pub f_octets : length octets_f ≡ 89
  pub f_reads : read_plan octets_f ≡ read desk_f
  pub f_writes : (room : List ℕ) → 89 ≤ length room → write_plan room desk_f ≡ accepted octets_f
  pub f_runs : ask_runs desk_f ≡ accepted (run 9_000 5_500 ∷ run 29_000 4_000 ∷ run 59_000 10_000 ∷ [])
  pub f_stairs : ask_stairs desk_f ≡ accepted (stair 0 10_000 ∷ stair 30_000 14_000 ∷ stair 50_000 19_500 ∷ [])
  pub p2 : (ask_interference 0 desk_f ≡ accepted 10_000)
      × (ask_interference 29_999 desk_f ≡ accepted 10_000)
      × (ask_interference 30_000 desk_f ≡ accepted 14_000)
  pub p3 : (ask_interference 99_999 desk_f ≡ accepted 19_500)
      × (ask_interference 100_000 desk_f ≡ accepted 29_500)
      × (ask_interference 130_000 desk_f ≡ accepted 33_500)
  -- "one run from 900, length 250"; "P4 with slot 250..400 added: one run, length 550"
  pub p4 : (rate : ℕ) → ask_runs (desk₄ rate (slot 0 100 ∷ [])) ≡ accepted (run 900 250 ∷ [])
  pub p5_added : (rate : ℕ)
      → add_slot (slot 250 400) (desk₄ rate (slot 0 100 ∷ [])) ≡ accepted (desk₄ rate (slot 0 100 ∷ slot 250 400 ∷ []))
  pub p5 : (rate : ℕ) → ask_runs (desk₄ rate (slot 0 100 ∷ slot 250 400 ∷ [])) ≡ accepted (run 900 550 ∷ [])
  -- "only slot 0..850: refusal 10. Slot 0..849: accepted, V(0) = 999, V(1,000) = 1,998"
  pub p6_refused : (rate : ℕ) → add_slot (slot 0 850) (desk₄ rate []) ≡ refused NoFreeCell
  pub p6_accepted : (rate : ℕ) → add_slot (slot 0 849) (desk₄ rate []) ≡ accepted (desk₄ rate (slot 0 849 ∷ []))
  pub p6 : (rate : ℕ)
      → (ask_interference 0 (desk₄ rate (slot 0 849 ∷ [])) ≡ accepted 999)
      × (ask_interference 1_000 (desk₄ rate (slot 0 849 ∷ [])) ≡ accepted 1_998)
  -- "no slots: V of any length is 0"
  pub p7 : (g : Gate) (t : ℕ) → interference g [] t ≡ 0
  -- "b = 40,000; responses 10,000, 20,000, 20,000, 10,000; bound 20,000", alone, with no slots
  pub p8_window : (g : Gate) (id priority deadline : ℕ)
      → window 2 (interference g []) 0 [] (stream₈ id priority deadline) ≡ some 40_000
  pub p8_responses : (g : Gate) (id priority deadline : ℕ)
      → (response 2 (interference g []) 0 [] (stream₈ id priority deadline) 40_000 1 ≡ some 10_000)
      × (response 2 (interference g []) 0 [] (stream₈ id priority deadline) 40_000 2 ≡ some 20_000)
      × (response 2 (interference g []) 0 [] (stream₈ id priority deadline) 40_000 3 ≡ some 20_000)
      × (response 2 (interference g []) 0 [] (stream₈ id priority deadline) 40_000 4 ≡ some 10_000)
  pub p8 : (g : Gate) (id priority deadline : ℕ)
      → bound_of (port₈ g) [] (stream₈ id priority deadline ∷ []) (stream₈ id priority deadline) ≡ some 20_000
  -- "plan F, both streams' bounds: 44,000"; the deadlines are 50,000 and 40,000
  pub p10 : (ask_response 1 desk_f ≡ accepted 44_000) × (ask_response 2 desk_f ≡ refused (Late 44_000))
  -- "Empty input: 4 at 0. Lone octet 01: 1 at 0. Length 100,000,001: 14."
  pub empty_input : read_plan [] ≡ refused_at OutOfTurn 0
  pub lone_octet : read_plan (0x01 ∷ []) ≡ refused_at CutShort 0
  pub over_horizon : ask_interference 100_000_001 desk_f ≡ refused OverHorizon
