-- What the code below the operations asks of its callers: an accepted file, and a list with a word for each of its records. No public promise mentions it.
-- A type of accepted files would say one of the three facts, and a clause would have to reach through it for the bytes. Assumes nothing.
use Rattle.std.specs.Prelude.{◌≡◌, List, ℕ, ◌<◌, length}
use Rattle.netlist.specs.Layout.{count_of}
use Rattle.rules.specs.Sound.{Acceptance}

-- An accepted file, and a list with a word for each record.
pub record Lent (file list : List ℕ) : Type 0 where
  pub accepted : Acceptance file (count_of file)
  pub size : length list ≡ count_of file

-- The same, with the number of a record.
pub record LentAt (file list : List ℕ) (i : ℕ) : Type 0 where
  pub accepted : Acceptance file (count_of file)
  pub size : length list ≡ count_of file
  pub below : i < count_of file
