-- A set of marks, one bit for each record, 64 to a word. No public promise mentions it.
-- Assumes nothing.
use Rattle.std.specs.Prelude.{◌≡◌, ◌≢◌, List, Option, MatchOption, ℕ, ◌+◌, ◌/◌, ◌%◌, ◌≤◌, ◌<◌}
use Rattle.endian.specs.Lists.{word_at}
use Rattle.bits.specs.Masks.{bit}

-- The mark of record i: 1 or 0.
abbrev pub mark_at : List ℕ → ℕ → ℕ
mark_at marks i = bit (word_at marks (i / 64)) (i % 64)

-- The mark of record i is v, and the others are as before.
pub record Put (marks : List ℕ) (i v : ℕ) (after : List ℕ) : Type 0 where
  pub here : mark_at after i ≡ v
  pub others : (j : ℕ) → j ≢ i → mark_at after j ≡ mark_at marks j

-- No record from number `low` on and below i is marked.
abbrev pub NoneMarked : List ℕ → ℕ → ℕ → Type 0
NoneMarked marks low i = (j : ℕ) → low ≤ j → j < i → mark_at marks j ≡ 0

-- h is the highest marked record below i.
pub record IsHighest (marks : List ℕ) (i h : ℕ) : Type 0 where
  pub below : h < i
  pub marked : mark_at marks h ≡ 1
  pub none : NoneMarked marks (h + 1) i

-- r is the highest marked record below i, or none where there is none.
abbrev pub Highest : List ℕ → ℕ → Option ℕ → Type 0
Highest marks i r = MatchOption r (NoneMarked marks 0 i) (IsHighest marks i)
