-- What acceptance says of a file and of its design.
-- Assumes nothing.
use Rattle.std.specs.Prelude.{◌≡◌, List, ℕ, ◌^◌, ◌≤◌, ◌<◌, length}
use Rattle.netlist.specs.Limits.{max_width, max_count, kind_count}
use Rattle.netlist.specs.Kinds.{uses_of}
use Rattle.netlist.specs.Layout.{Design, design_of, count_of, record_start, record_at, code_at, fields_at}
use Rattle.netlist.specs.Rules.{AllHold}
use Rattle.rules.specs.Fit.{operand_rules, width_rules_at, multiplier_rules, field_rules}

-- What acceptance says of record i: its width lies within the limits, its operands are in range and no outputs, its kind's
-- width rule holds, it is no multiplier of more than 32 bits, and its keep word and the k of a constant or register have no bit at w or above.
pub record SoundRecord (d : Design) (i : ℕ) : Type 0 where
  pub positive : 1 ≤ (d.at i).width
  pub narrow : (d.at i).width ≤ max_width
  pub operands : AllHold (operand_rules d i)
  pub widths : AllHold (width_rules_at d i)
  pub multiplier : AllHold (multiplier_rules (d.at i).kind (d.at i).width)
  pub keep : (d.at i).keep < 2 ^ (d.at i).width
  pub word : (uses_of (d.at i).kind).word < 2 ^ (d.at i).width

-- What acceptance says of a design.
pub record Sound (d : Design) : Type 0 where
  pub few : d.count ≤ max_count
  pub each : (i : ℕ) → i < d.count → SoundRecord d i

-- What acceptance with n records says of a file: its count and length, that its design is sound, that each record has the number of a kind, and
-- that its fields are those that the kind uses.
pub record Acceptance (file : List ℕ) (n : ℕ) : Type 0 where
  pub count : n ≡ count_of file
  pub size : length file ≡ record_start n
  pub sound : Sound (design_of file)
  pub codes : (i : ℕ) → i < n → code_at file i < kind_count
  pub fields : (i : ℕ) → i < n → AllHold (field_rules (fields_at file i) (uses_of (record_at file i).kind))

-- Two designs have the same count, and the same record at each number below it.
pub record SameDesign (d e : Design) : Type 0 where
  pub count : d.count ≡ e.count
  pub each : (i : ℕ) → i < d.count → d.at i ≡ e.at i
