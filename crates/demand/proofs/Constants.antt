-- A record of a file is a constant if and only if its number is 1, and its value is the k and the keep word that the file has.
-- Assumes nothing.
use mathlib.Core.Path.{◌≡◌, sym, ap, ◌∙◌}
use mathlib.Core.Bool.{true, false}
use mathlib.Core.List.{List}
use Prim.Native.Nat.{ℕ}
use borrow.Author.Tests.{eq-eqb, ne_eqb}
use lib.Bits.{bit_and}
use Rattle.netlist.specs.declared.record.Fields.{Fields}
use Rattle.netlist.specs.Kinds.{is_constant, kind_of, uses_of}
use Rattle.netlist.specs.Layout.{code_at, fields_at, keep_at, record_at, design_of}
use Rattle.netlist.proofs.KindLaws.{constant_code}
use Rattle.signal.specs.Asks.{constant_value}

module _ (file : List ℕ) (i : ℕ) where
  abbrev code : ℕ
  code = code_at file i

  abbrev fields : Fields
  fields = fields_at file i

  pub not_constant : (code ≡ 1 → ⊥) → is_constant ((design_of file).at i).kind ≡ false
  unfolding design_of record_at
  not_constant n = constant_code code fields ∙ ne_eqb code 1 n

  pub is_read : code ≡ 1 → is_constant ((design_of file).at i).kind ≡ true
  unfolding design_of record_at
  is_read one = constant_code code fields ∙ eq-eqb code 1 one

  pub value_read : code ≡ 1 → bit_and fields.k (keep_at file i) ≡ constant_value ((design_of file).at i)
  unfolding design_of record_at kind_of
  value_read one = ap (λ (n : ℕ). bit_and (uses_of (kind_of n fields)).k (keep_at file i)) (sym one)
