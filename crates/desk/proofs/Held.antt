-- A desk of document 01 and its one struct, by its entries: each is found again from the other; what is sound is fit.
-- Assumes nothing.
use mathlib.Core.Path.{◌≡◌, refl, sym, ap, subst, ◌∙◌}
use mathlib.Core.Bool.{false}
use Rattle.meaning.specs.Desks.{bare, opened, SameDesk}
use Rattle.meaning.specs.Desks.{Desk as Plan}
use Rattle.meaning.specs.Promises.{SoundDesk}
use Rattle.meaning.proofs.Sounds.{same_desk, sound_bare}
use Rattle.entries.specs.Entries.{filled_entries, entries_of, held_in, FitEntries}
use Rattle.entries.proofs.Opened.{held_of_entries}
use Rattle.entries.proofs.Opened.{held_bare as entries-bare}
use Rattle.desk.specs.declared.Desk.{Desk}
use Rattle.desk.specs.Desks.{filled_desk, desk_of, held, Fit}
use Rattle.desk.specs.Edits.{entries_in}

-- ---- the entries of a desk

-- they hold what it holds
pub held_in_entries : (d : Desk) → held_in (entries_in d) ≡ held d
unfolding held held_in
held_in_entries d = refl

entries_in_struct : (x : Plan) → entries_in (desk_of x) ≡ entries_of x
unfolding desk_of filled_desk entries_of filled_entries
entries_in_struct bare = refl
entries_in_struct (opened p ss js) = refl

-- those of a fit desk may be handed to any edit
pub fit_entries : (d : Desk) → Fit d → FitEntries (entries_in d)
fit_entries d f =
    record {
      sound = subst SoundDesk (sym (held_in_entries d)) f.sound;
      canonical =
          ap entries_in f.canonical ∙ entries_in_struct (held d) ∙ ap entries_of (sym (held_in_entries d));
    }

-- ---- what is held

-- the struct of a desk holds that desk
pub held_of : (e : Plan) → held (desk_of e) ≡ e
held_of e = sym (held_in_entries (desk_of e)) ∙ ap held_in (entries_in_struct e) ∙ held_of_entries e

pub held_bare : (d : Desk) → d.opened ≡ false → held d ≡ bare
held_bare d o = sym (held_in_entries d) ∙ entries-bare (entries_in d) o

-- the struct of a sound desk may be handed to any call
pub fit_of : (e : Plan) → SoundDesk e → Fit (desk_of e)
fit_of e s =
    record {
      sound = subst SoundDesk (sym (held_of e)) s;
      canonical = ap desk_of (sym (held_of e));
    }

pub fit_bare : Fit (desk_of bare)
fit_bare = fit_of bare sound_bare

-- fit desks that hold the same desk are one struct: order of entry and freed places do not show
pub fit_unique : (d e : Desk) → Fit d → Fit e → held d ≡ held e → d ≡ e
fit_unique d e f g h = f.canonical ∙ ap desk_of h ∙ sym g.canonical

-- "the same desk" of document 01 is equality of the structs
pub same_struct : (d e : Desk) → Fit d → Fit e → SameDesk (held d) (held e) → d ≡ e
same_struct d e f g h = fit_unique d e f g ((same_desk (held d) (held e)).0 h)

-- a contract by equation leaves room for one reply only
pub no_second_reply : {A : Type 0} {r s m : A} → r ≡ m → s ≡ m → r ≡ s
no_second_reply a b = a ∙ sym b
