-- `compactor::words::with_words` meets its contract: the front of an array of zeros is a list of zeros.
-- Assumes nothing.
use native.Mathlib.Omega.{arith}
use Rattle.std.proofs.lemmas.List.{take-replicate}
use Rattle.compactor.proofs.words.with_words.Goals as goal

pub run-requires : goal.run-requires
run-requires g c = c.requires.runs _ (take-replicate c.args.n 256 0 (let t = c.if-n-le-SHORT_LIST.true in omega arith))

pub returns-then-n-le-SHORT_LIST : goal.returns-then-n-le-SHORT_LIST
returns-then-n-le-SHORT_LIST g c = (_, _, take-replicate c.args.n 256 0 (let t = c.if-n-le-SHORT_LIST.true in omega arith), c.run.ensures)

pub run-requires-2 : goal.run-requires-2
run-requires-2 g c = c.requires.runs _ (take-replicate c.args.n 2049 0 (let t = c.requires.room in omega arith))

pub returns : goal.returns
returns g c = (_, _, take-replicate c.args.n 2049 0 (let t = c.requires.room in omega arith), c.run-2.ensures)
