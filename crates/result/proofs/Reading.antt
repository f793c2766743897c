-- The operands of an accepted file's records can be read from a list with a word for each record, and what is read gives the result.
-- Assumes nothing.
use mathlib.Core.Path.{◌≡◌, sym, subst, ◌∙◌}
use mathlib.Core.List.{List}
use Prim.Native.Nat.{ℕ, ◌<◌, ◌≤◌}
use native.Mathlib.Omega.{arith}
use lib.ListN.{length}
use Rattle.endian.specs.Lists.{word_at}
use Rattle.netlist.specs.Kinds.{uses_of}
use Rattle.netlist.specs.Layout.{design_of, count_of, width_at, fields_at, record_at}
use Rattle.netlist.specs.Limits.{max_count}
use Rattle.netlist.specs.declared.record.Fields.{Fields}
use Rattle.netlist.specs.declared.record.Record.{Record}
use Rattle.netlist.proofs.KindLaws.{used_fields}
use Rattle.rules.specs.Sound.{Acceptance}
use Rattle.rules.specs.Lent.{LentAt}
use Rattle.rules.proofs.FieldLaws.{fields_used}
use Rattle.rules.proofs.SoundLaws.{operands_below}
use Rattle.signal.specs.Results.{result_of, result_at}

-- operand fields that lie below n
pub record Inside (n : ℕ) (f : Fields) : Type 0 where
  pub a : f.a < n
  pub b : f.b < n
  pub c : f.c < n

module _ (file : List ℕ) (a : Acceptance file (count_of file)) (i : ℕ) (h : i < count_of file) where
  -- the fields that the code has read are those that the kind uses
  pub fields_read : {f : Fields} → f ≡ fields_at file i → f ≡ used_fields (uses_of (record_at file i).kind)
  fields_read e = e ∙ fields_used (fields_at file i) (uses_of (record_at file i).kind) (a.fields i h)

  -- and name records of the file
  pub operands_in : {f : Fields} → f ≡ fields_at file i → Inside (count_of file) f
  unfolding design_of
  operands_in e =
      let below = operands_below (design_of file) a.sound i h in
      subst (Inside (count_of file)) (sym (fields_read e)) (record { a = below.a; b = below.b; c = below.c })

  -- the result, with the width that the code has read
  pub result_read : (board : List ℕ) {r : Record} {f : Fields} {wb : ℕ} → r ≡ record_at file i → f ≡ fields_at file i → wb ≡ width_at file f.b
      → result_of r.kind r.width wb (word_at board i) (word_at board f.a) (word_at board f.b) (word_at board f.c)
      ≡ result_at (design_of file).at (word_at board) i
  unfolding result_at design_of record_at
  result_read board e q w = rw (w, fields_read q, e)

-- operand fields that name words of a board, which has no more of them than a file has records
pub record Named (board : List ℕ) (f : Fields) : Type 0 where
  pub a : f.a < length board
  pub b : f.b < length board
  pub c : f.c < length board
  pub few : length board ≤ max_count

pub named : {file board : List ℕ} {i : ℕ} {f : Fields} → LentAt file board i → f ≡ fields_at file i → Named board f
unfolding design_of
named {file = file} {i = i} lent e =
    let inside = operands_in file lent.accepted i lent.below e in
    let size = lent.size in
    let few = lent.accepted.sound.few in
    record { a = omega arith; b = omega arith; c = omega arith; few = omega arith }
