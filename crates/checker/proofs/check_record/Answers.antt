-- `checker::check_record` reads operands' widths within the file: operands that passed lie below n, and so does the 0 of an unused one.
-- Assumes nothing.
use mathlib.Core.Path.{◌≡◌, sym, subst}
use mathlib.Core.Bool.{true}
use mathlib.Core.List.{List}
use Prim.Native.Nat.{ℕ, ◌+◌, ◌≤◌, ◌<◌}
use native.Mathlib.Omega.{arith}
use lib.ListN.{length}
use Rattle.netlist.specs.Kinds.{operands_of, uses_of}
use Rattle.netlist.specs.Layout.{design_of, record_start, record_size}
use Rattle.netlist.specs.Rules.{test_all}
use Rattle.netlist.specs.declared.record.Kind.{Kind}
use Rattle.netlist.specs.declared.record.Uses.{Uses}
use Rattle.netlist.proofs.KindLaws.{padded, Padded}
use Rattle.rules.specs.Fit.{operand_limit, names_rules}
use Rattle.rules.proofs.OperandLaws.{operand_below}
use Rattle.rules.proofs.CheckLaws.{limit_le}
use Rattle.checker.proofs.check_record.Goals as goal

-- the records that the operand fields name, used or not, lie within the file
record Within (file : List ℕ) (u : Uses) : Type 0 where
  first : record_start u.a + record_size ≤ length file
  second : record_start u.b + record_size ≤ length file
  third : record_start u.c + record_size ≤ length file

module _ (file : List ℕ) (n i limit : ℕ) (u : Uses) (k : Kind) where
  within : record_start n ≤ length file → i < n → u ≡ uses_of k → limit ≡ operand_limit u.role n i
      → test_all (names_rules (design_of file) limit (operands_of u)) ≡ true → Within file u
  within room h eu el t =
      let low : limit ≤ n = subst (λ (l : ℕ). l ≤ n) (sym el) (limit_le u.role n i (omega arith)) in
      let below = operand_below (design_of file) limit n (operands_of u) low (omega arith) t in
      let p : Padded u = subst Padded (sym eu) (padded k) in
      record { first = let b = below 0 in omega (arith, p.first); second = let b = below 1 in omega (arith, p.second); third = let b = below 2 in omega (arith, p.third) }

pub width_at-wa-requires : goal.width_at-wa-requires
width_at-wa-requires c =
    (within c.args.file.now c.args.n c.args.i _ c.new-uses.result _ c.requires.1 c.requires.2 c.new-uses.ensures c.operand_limit-limit.ensures
    (grind arith)).first

pub width_at-wb-requires : goal.width_at-wb-requires
width_at-wb-requires c =
    (within c.args.file.now c.args.n c.args.i _ c.new-uses.result _ c.requires.1 c.requires.2 c.new-uses.ensures c.operand_limit-limit.ensures
    (grind arith)).second

pub width_at-wc-requires : goal.width_at-wc-requires
width_at-wc-requires c =
    (within c.args.file.now c.args.n c.args.i _ c.new-uses.result _ c.requires.1 c.requires.2 c.new-uses.ensures c.operand_limit-limit.ensures
    (grind arith)).third
