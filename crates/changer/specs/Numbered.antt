-- What the code below `change_over` asks of its callers. No public promise mentions it. No type says it, as it is about lists that are lent
-- together for one call. Assumes nothing.
use Rattle.std.specs.Prelude.{◌≡◌, List, ℕ, length}
use Rattle.netlist.specs.Layout.{design_of, count_of}
use Rattle.rules.specs.Sound.{Acceptance}
use Rattle.compactor.specs.Numbers.{numbers_of}

-- An accepted file, a mask list and a board list with a word for each record, and a list with the numbers of the survivors.
pub record Numbered (file list board numbers : List ℕ) : Type 0 where
  pub accepted : Acceptance file (count_of file)
  pub masks : length list ≡ count_of file
  pub boards : length board ≡ count_of file
  pub numbered : numbers ≡ numbers_of (design_of file) list
