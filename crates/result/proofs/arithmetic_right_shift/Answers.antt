-- `result::arithmetic_right_shift` meets its contract: the test of the top bit is the definition's.
-- Assumes nothing.
use mathlib.Core.Path.{sym, ap, ◌∙◌}
use Prim.Native.Nat.{ℕ, ◌%◌}
use borrow.Author.Tests.{ne_eqb}
use lib.Bits.{or_zero_r}
use Rattle.signal.specs.Results.{top_bit}
use Rattle.result.proofs.arithmetic_right_shift.Goals as goal

pub returns-else-shr-eq1 : goal.returns-else-shr-eq1
returns-else-shr-eq1 c =
    let args = c.args in
    -- the bit that the code tests is the top bit
    let tested = ap (λ (n : ℕ). n % 2) c.shr.ensures in
    let clear = ne_eqb (top_bit args.w args.x) 1 (λ e. c.if-shr-eq1.false (tested ∙ e)) in
    rw clear (c.shr-moved.ensures ∙ sym (or_zero_r _))
