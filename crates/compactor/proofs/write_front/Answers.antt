-- `compactor::write_front` meets its contract: a list of zeros has a word for each record.
-- Assumes nothing.
use native.Mathlib.Omega.{arith}
use Rattle.rules.proofs.Acceptance.{few}
use Rattle.compactor.proofs.write_front.Goals as goal

pub with_words-requires-clause-room : goal.with_words-requires-clause-room
with_words-requires-clause-room c = let s = c.requires.size in let f = few _ _ c.requires.accepted in omega arith
