-- `compactor::write::write_survivors` meets its contract: after i turns the records of the survivors below i are written.
-- Assumes nothing.
use Rattle.netlist.specs.Layout.{design_of}
use Rattle.compactor.proofs.WriteLaws.{Writing}
use Rattle.compactor.proofs.write.write_survivors.Given as goal

abbrev pub invariant-loop-i : goal.invariant-loop-i
invariant-loop-i l = Writing (design_of l.file) l.list l.initial.destination l.destination l.i
