-- How the code holds what a record asks, and what it can read. No rule is stated here, and no promise of an operation mentions it.
-- What an arm can read has no type of its own, since each kind can read something else. Assumes nothing.
use Rattle.std.specs.Prelude.{List, [], ◌∷◌, ℕ, ◌+◌, ◌≤◌, length}
use Rattle.std.specs.Int.Bits.{bit_and, bit_xor}
use Rattle.netlist.specs.Limits.{max_width}
use Rattle.netlist.specs.Kinds.{uses_of, width_rules}
use Rattle.netlist.specs.Layout.{design_of, record_start, record_size}
use Rattle.netlist.specs.Rules.{AllHold}
use Rattle.netlist.specs.declared.record.Kind.{Kind}
use Rattle.signal.specs.declared.Ask.{Ask}
use Rattle.demand.specs.declared.Asks.{Asks}
use Rattle.demand.specs.declared.Asks.TheVariants.{None, One, Two, Three}

-- The asks that the code's enum holds.
abbrev pub listed : Asks → List Ask
listed None = []
listed (One x) = x ∷ []
listed (Two x y) = x ∷ y ∷ []
listed (Three x y z) = x ∷ y ∷ z ∷ []

-- D cut by v as the code does it, some bits inverted: D and v with none, D without v with those of D.
abbrev pub cut_inverting : ℕ → ℕ → ℕ → ℕ
cut_inverting inverted D v = bit_xor inverted (bit_and v D)

-- The file holds records a and b.
pub record Holds (file : List ℕ) (a b : ℕ) : Type 0 where
  pub first : record_start a + record_size ≤ length file
  pub second : record_start b + record_size ≤ length file

-- The file holds the first two operands of a kind, they are words of at most 64 bits, and a record of some width keeps the kind's rule.
pub record Readable (file : List ℕ) (kind : Kind) : Type 0 where
  pub first : record_start (uses_of kind).a + record_size ≤ length file
  pub second : record_start (uses_of kind).b + record_size ≤ length file
  pub narrow_first : ((design_of file).at (uses_of kind).a).width ≤ max_width
  pub narrow_second : ((design_of file).at (uses_of kind).b).width ≤ max_width
  pub width : ℕ
  pub widths : AllHold (width_rules kind width ((design_of file).at (uses_of kind).a).width ((design_of file).at (uses_of kind).b).width ((design_of file).at (uses_of kind).c).width)
