-- `checker::check_header` meets its contract: its rules are tried in their order.
-- Assumes nothing.
use Rattle.std.proofs.Common.{ap, arith}
use Rattle.netlist.specs.Layout.{record_start}
use Rattle.checker.proofs.VerdictLaws.{header_verdict}
use Rattle.checker.proofs.check_header.Goals as goal

pub returns : goal.returns
returns c = let v = header_verdict c.args.file.now in let e = ap record_start c.record_count-n.ensures.count in grind arith
