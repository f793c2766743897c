-- The loop of `bits::arith::mul`: after k bits of the smaller factor the sum is the product with these bits alone.
-- Assumes nothing.
use Rattle.std.proofs.Common.{◌≡◌}
use Rattle.bits.specs.Words.{cut, down, product_at}
use Rattle.bits.proofs.arith.mul.Given as goal

abbrev pub invariant-loop-smaller : goal.invariant-loop-smaller
invariant-loop-smaller l = record { so_far : l.sum ≡ product_at 64 l.larger (cut l.k l.initial.smaller); left : l.smaller ≡ down l.k l.initial.smaller }

abbrev pub decreases-loop-smaller : goal.decreases-loop-smaller
decreases-loop-smaller l = l.smaller
