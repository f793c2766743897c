-- `sweep::join_all` meets its contract: the asks are joined one after the other.
-- Assumes nothing.
use Rattle.sweep.proofs.NotedLaws.{joins_none, joins_two, joins_three}
use Rattle.sweep.proofs.join_all.Goals as goal

pub returns-in-None : goal.returns-in-None
returns-in-None c = rw c.in-None.is (joins_none _ _ _ _)

pub returns-in-Two : goal.returns-in-Two
returns-in-Two c = let n = c.requires.0 in rw c.in-Two.is (joins_two (rw c.in-Two.is at n) c.join-in-Two.ensures c.join-in-Two-2.ensures)

pub returns-in-Three : goal.returns-in-Three
returns-in-Three c = let n = c.requires.0 in
    rw c.in-Three.is (joins_three (rw c.in-Three.is at n) c.join-in-Three.ensures c.join-in-Three-2.ensures c.join-in-Three-3.ensures)
