-- What an edit hands back, from the answer of the entries: the unchanged desk, or the desk made, stairs built or kept.
-- Assumes nothing.
use mathlib.Core.Path.{◌≡◌, refl, sym, ap, subst, ◌∙◌}
use mathlib.Core.Bool.{true}
use Rattle.std.specs.Prelude.{Result, Ok, Err}
use Rattle.meaning.specs.declared.Refusal.{Refusal}
use Rattle.meaning.specs.Refusals.{Answer, accepted, refused}
use Rattle.meaning.specs.Desks.{edited}
use Rattle.meaning.specs.Desks.{Desk as Plan}
use Rattle.meaning.specs.Promises.{SoundDesk}
use Rattle.answers.specs.Answers.{answer_of}
use Rattle.entries.specs.declared.Entries.{Entries}
use Rattle.entries.specs.Entries.{entries_of, held_in, FitEntries}
use Rattle.entries.specs.Entries.{Edits as EntriesEdits}
use Rattle.entries.proofs.Opened.{held_of_entries}
use Rattle.desk.specs.declared.Desk.{Desk}
use Rattle.desk.specs.declared.Reply.{Reply}
use Rattle.desk.specs.Desks.{desk_of, held, Fit, edit_reply}
use Rattle.desk.specs.Edits.{entries_in, with_entries, answered}
use Rattle.desk.proofs.Held.{fit_of, held_in_entries, fit_entries}

abbrev pub Told : Type 0
Told = Result (Unit {0}) Refusal

-- the reply r to a call on the desk d
abbrev pub Edits : (Plan → Answer Plan) → Desk → Reply (Unit {0}) → Type 0
Edits call d r = (r ≡ edit_reply (edited (held d) (call (held d)))) × Fit r.desk

-- the desk is fit, and its entries are e
module _ (d : Desk) (f : Fit d) (e : Entries) (q : e ≡ entries_in d) where
  pub may_edit : FitEntries e
  may_edit = subst FitEntries (sym q) (fit_entries d f)

  same_held : held_in e ≡ held d
  same_held = ap held_in q ∙ held_in_entries d

  -- the same call on the entries gave the answer a, and left them as made
  module _ (call : Plan → Answer Plan) (a : Told) (made : Entries)
      (k : EntriesEdits e (call (held_in e)) a made) where
    same_answer : a ≡ answer_of (edited (held d) (call (held d))).answer
    same_answer = k.answer ∙ ap (λ (y : Plan). answer_of (edited y (call y)).answer) same_held

    same_made : made ≡ entries_of (edited (held d) (call (held d))).desk
    same_made = k.entries ∙ ap (λ (y : Plan). entries_of (edited y (call y)).desk) same_held

    holds_made : (x : Plan) → made ≡ entries_of x → held_in made ≡ x
    holds_made x b = ap held_in b ∙ held_of_entries x

    -- from the desk e' made, where the call was accepted
    edit : (desk : Desk) → ((x : Plan) → call (held d) ≡ accepted x → made ≡ entries_of x → desk ≡ desk_of x)
        → (r : Reply (Unit {0})) → r ≡ answered d desk a → Edits call d r
    unfolding edited answered
    edit desk same r b = go (call (held d)) refl same_answer same_made
      where
        go : (x : Answer Plan) → call (held d) ≡ x → a ≡ answer_of (edited (held d) x).answer
            → made ≡ entries_of (edited (held d) x).desk → Edits call d r
        go (accepted x) p l n =
            let t : r ≡ record { answer = Ok tt; desk = desk_of x } =
            b ∙ λ i. answered d (same x p n i) (l i) in
            (rw (t, p), rw t (fit_of x (subst SoundDesk (holds_made x n) k.fit.sound)))
        go (refused why) p l n =
            let t : r ≡ record { answer = Err why; desk = d } = b ∙ ap (answered d desk) l in
            (rw (t, p) (ap (λ (z : Desk). record { answer = Err why; desk = z }) f.canonical), rw t f)

    -- the stairs may be built, where the desk made is open
    pub may_get_stairs : ((y x : Plan) → call y ≡ accepted x → (entries_of x).opened ≡ true)
        → FitEntries made × (a ≡ Ok tt → made.opened ≡ true)
    unfolding edited
    may_get_stairs opens = (k.fit, go (call (held d)) refl same_answer same_made)
      where
        go : (x : Answer Plan) → call (held d) ≡ x → a ≡ answer_of (edited (held d) x).answer
            → made ≡ entries_of (edited (held d) x).desk → a ≡ Ok tt → made.opened ≡ true
        go (accepted x) p l n v = ap (λ (z : Entries). z.opened) n ∙ opens (held d) x p
        go (refused why) p l n v = cc

    pub built_edit : (r : Reply (Unit {0})) → r ≡ answered d (desk_of (held_in made)) a → Edits call d r
    built_edit r b = edit (desk_of (held_in made)) (λ x p n. ap desk_of (holds_made x n)) r b

    -- the stairs may be kept, where the call leaves them as they are
    pub kept_edit : ((y x : Plan) → call y ≡ accepted x → with_entries (desk_of y) (entries_of x) ≡ desk_of x)
        → (r : Reply (Unit {0})) → r ≡ answered d (with_entries d made) a → Edits call d r
    kept_edit stay r b =
        edit (with_entries d made)
        (λ x p n. (λ i. with_entries (f.canonical i) (n i)) ∙ stay (held d) x p) r b
