-- What writing a whole plan answers.
use Rattle.std.specs.Prelude.{◌≡◌, List, [], ◌∷◌, ℕ, Result, Ok, Err}
use Rattle.meaning.specs.declared.Refusal.{Refusal}
use Rattle.meaning.specs.Refusals.{Answer}
use Rattle.meaning.specs.Desks.{Reply as Meant}
use Rattle.meaning.specs.Bytes.{written, room_after}
use Rattle.answers.specs.Answers.{answer_of}
use Rattle.desk.specs.Desks.{reply_of}
use Rattle.desk.specs.declared.Reply.{Reply}

-- "It answers how many it wrote."
abbrev pub write_reply : Meant ℕ → Reply ℕ
write_reply r = reply_of r

-- the count that an answer carries
unfoldable pub write_counts : Result ℕ Refusal → List ℕ
write_counts (Ok n) = n ∷ []
write_counts (Err r) = []

-- what is answered and left in the room where document 01 answers these octets
abbrev pub Puts : Answer (List ℕ) → Result ℕ Refusal → List ℕ → List ℕ → Type 0
Puts octets result before after = (result ≡ answer_of (written octets)) × (after ≡ room_after before octets)
