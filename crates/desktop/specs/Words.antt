-- What the functions below the desktop's ask of each other: lists of words in place of buffers of bytes. No public promise mentions it.
-- Assumes nothing.
use Rattle.std.specs.Prelude.{◌≡◌, ℕ, ◌*◌, ◌≤◌, Result, OnOk}
use Rattle.netlist.specs.declared.refusal.Refused.{Refused}
use Rattle.netlist.specs.Limits.{max_count}
use Rattle.care.specs.declared.Tally.{Tally}

-- A list of so many words matches a buffer of so many bytes: for each count of records that a file may have, both are of the length it asks for or neither is.
pub record Matches (words bytes : ℕ) : Type 0 where
  pub there : words ≤ max_count → bytes ≡ 8 * words
  pub back : (n : ℕ) → n ≤ max_count → bytes ≡ 8 * n → words ≡ n

-- Where the call is accepted, the buffer has 8 bytes for each word of the list.
abbrev pub Room : Result Tally Refused → ℕ → ℕ → Type 0
Room answer words bytes = OnOk answer (bytes ≡ 8 * words)
