-- What the code below `compact` asks of its callers. No public promise mentions it. No type says it, as it is about lists that are lent together
-- for one call. Assumes nothing.
use Rattle.std.specs.Prelude.{◌≡◌, List, ℕ, ◌<◌, length}
use Rattle.endian.specs.Lists.{word_at}
use Rattle.netlist.specs.Layout.{design_of, count_of}
use Rattle.rules.specs.Sound.{Acceptance}
use Rattle.compactor.specs.Numbers.{numbers_of}

-- An accepted file, a list with a word for each record, and another whose words are 0.
pub record Cleared (file list numbers : List ℕ) : Type 0 where
  pub accepted : Acceptance file (count_of file)
  pub size : length list ≡ count_of file
  pub room : length numbers ≡ count_of file
  pub clear : (j : ℕ) → j < count_of file → word_at numbers j ≡ 0

-- An accepted file, a list with a word for each record, and a destination of the file's length.
pub record Ready (file list destination : List ℕ) : Type 0 where
  pub accepted : Acceptance file (count_of file)
  pub size : length list ≡ count_of file
  pub room : length destination ≡ length file

-- An accepted file, a list with a word for each record, another with the numbers of the survivors, and the number of a record.
pub record NumberedAt (file list numbers : List ℕ) (i : ℕ) : Type 0 where
  pub accepted : Acceptance file (count_of file)
  pub size : length list ≡ count_of file
  pub numbered : numbers ≡ numbers_of (design_of file) list
  pub below : i < count_of file
