-- `entries::Entries::place_slot` meets its contract: each answer is the meaning's, by the tests that led to it.
use mathlib.Core.Path.{◌≡◌, ◌∙◌}
use mathlib.Core.Bool.{true, false}
use Prim.Native.Nat.{◌≤◌, ◌<◌}
use native.Mathlib.Omega.{arith}
use Rattle.laws.specs.Lists.{any}
use Rattle.meaning.specs.declared.Refusal.TheVariants.{Overlap, Full, NoFreeCell}
use Rattle.meaning.specs.Calls.{overlaps}
use Rattle.meaning.proofs.Sounds.{add_slot_sound}
use Rattle.rows.proofs.Searching.{any_list}
use Rattle.entries.specs.Entries.{held_in, slots_in}
use Rattle.entries.proofs.Opened.{open_entries, slots_free}
use Rattle.entries.proofs.Answers.{refusal_edits, acceptance_edits}
use Rattle.entries.proofs.SlotLaws.{add_slot_full, add_slot_overlap, add_slot_no_free_cell, add_slot_accepts}
use Rattle.entries.proofs.SlotLaws.{add_slot_row, may_test_free, free_tested}
use Rattle.entries.proofs.Entries.place_slot.Goals as goal

-- ---- 7: there is room

pub returns-then-n-ge32 : goal.returns-then-n-ge32
returns-then-n-ge32 c =
    let full : 32 ≤ _ = c.if-n-ge32.true in
    let e = c.args.self.now in
    let o = open_entries e c.requires.0 c.requires.1 in
    refusal_edits e _ Full c.requires.0 (add_slot_full e c.args.s o c.requires.2 full)

-- ---- 6: no slot held overlaps it
-- by 7 those held fit the row

pub returns-then-overlaps_any : goal.returns-then-overlaps_any
returns-then-overlaps_any c =
    let e = c.args.self.now in
    let o = open_entries e c.requires.0 c.requires.1 in
    let room : e.nslots < 32 = c.if-n-ge32.false in
    let over : any (overlaps c.args.s) (slots_in e) ≡ true = cc (any_list (overlaps c.args.s) (slots_in e)) in
    refusal_edits e _ Overlap c.requires.0 (add_slot_overlap e c.args.s o c.requires.2 room over)

pub insert-requires : goal.insert-requires
insert-requires c =
    let e = c.args.self.now in
    let o = open_entries e c.requires.0 c.requires.1 in
    (omega (arith, o.slots_long), slots_free e o)

-- ---- 10: a cell is left free

pub invariant_of-more : goal.invariant_of-more
invariant_of-more c =
    let e = c.args.self.now in
    let o = open_entries e c.requires.0 c.requires.1 in
    let apart : any (overlaps c.args.s) (slots_in e) ≡ false = cc (any_list (overlaps c.args.s) (slots_in e)) in
    let fits = may_test_free e c.args.s o _ c.insert.ensures _ c.gate.ensures c.requires.2 c.if-n-ge32.false apart in
    record { fits = fits }

pub returns-then-not-some_free : goal.returns-then-not-some_free
returns-then-not-some_free c =
    let e = c.args.self.now in
    let o = open_entries e c.requires.0 c.requires.1 in
    let apart : any (overlaps c.args.s) (slots_in e) ≡ false = cc (any_list (overlaps c.args.s) (slots_in e)) in
    let tested = free_tested e c.args.s o _ c.insert.ensures _ c.gate.ensures _ c.some_free.ensures in
    refusal_edits e _ NoFreeCell c.requires.0
    (add_slot_no_free_cell e c.args.s o c.requires.2 c.if-n-ge32.false apart (tested ∙ c.if-not-some_free.true))

pub returns : goal.returns
returns c =
    let e = c.args.self.now in
    let o = open_entries e c.requires.0 c.requires.1 in
    let apart : any (overlaps c.args.s) (slots_in e) ≡ false = cc (any_list (overlaps c.args.s) (slots_in e)) in
    let tested = free_tested e c.args.s o _ c.insert.ensures _ c.gate.ensures _ c.some_free.ensures in
    let a = add_slot_accepts e c.args.s o c.requires.2 c.if-n-ge32.false apart (tested ∙ c.if-not-some_free.false) in
    acceptance_edits e _ _ _ (add_slot_sound c.args.s (held_in e) _ c.requires.0.sound a)
    (add_slot_row e c.args.s o _ c.insert.ensures) a
