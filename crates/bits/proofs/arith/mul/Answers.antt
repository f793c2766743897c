-- `bits::arith::mul` meets its contract: a shift is by less than 64 places, a turn takes two bits more, and in the end all were taken.
-- Assumes nothing.
use Rattle.std.proofs.Common.{arith}
use Rattle.bits.proofs.Modulo.{shift_in}
use Rattle.bits.proofs.ProductLaws.{product_next, left_next, product_done}
use Rattle.bits.proofs.arith.mul.Goals as goal

pub overflow_shl-sum : goal.overflow_shl-sum
overflow_shl-sum c = let l = c.loop-smaller in
    let e = l.invariant.left in shift_in c.min-smaller.result l.k c.min-smaller.type_inv (omega arith)

pub overflow_add-k : goal.overflow_add-k
overflow_add-k c = let l = c.loop-smaller in
    let e = l.invariant.left in
    let h = shift_in c.min-smaller.result l.k c.min-smaller.type_inv (omega arith) in omega arith

pub loop-smaller-preserved : goal.loop-smaller-preserved
loop-smaller-preserved c = let l = c.loop-smaller in
    let b = c.min-smaller.result in
    record {
      so_far =
          product_next c.max-larger.result b l.k _ l.sum l.smaller _ _ c.max-larger.type_inv (omega arith) (omega arith) (omega arith)
          l.invariant.left l.invariant.so_far;
      left = left_next b l.k _ l.smaller (omega arith) l.invariant.left;
    }

pub returns : goal.returns
returns c = let l = c.loop-smaller in
    let a = c.args in
    product_done c.max-larger.result c.min-smaller.result l.k l.sum l.smaller a.x a.y (omega arith) (omega arith) (omega arith)
    l.invariant.left l.invariant.so_far
