-- `compactor::write::write_survivors` meets its contract: after i turns the records of the survivors below i are written.
-- Assumes nothing.
use native.Mathlib.Omega.{arith}
use Rattle.netlist.specs.Layout.{design_of}
use Rattle.compactor.proofs.WriteLaws.{writing_none, writing_next, writing_all}
use Rattle.compactor.proofs.write.write_survivors.Goals as goal

pub loop-i-init : goal.loop-i-init
loop-i-init c = writing_none _ _ _

pub loop-i-preserved : goal.loop-i-preserved
unfolding design_of
loop-i-preserved c = let args = c.args in
    writing_next (design_of args.file.now) c.requires.0.accepted.sound args.list.now args.destination.now _ _ c.loop-i.i
    c.loop-i.invariant (omega arith) c.write_survivor.ensures

pub returns : goal.returns
unfolding design_of
returns c = let args = c.args in
    writing_all (design_of args.file.now) c.requires.0.accepted.sound args.list.now args.destination.now _ c.loop-i.i
    c.loop-i.invariant (omega arith)
