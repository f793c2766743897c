-- `compactor::write::write_words` meets its contract: each word is stored behind the one before.
-- Assumes nothing.
use Rattle.compactor.proofs.WriteLaws.{words_stored}
use Rattle.compactor.proofs.write.write_words.Goals as goal

pub returns : goal.returns
returns c =
    let w = c.args.words in
    words_stored c.args.destination.now c.args.at w.front w.k w.keep c.requires _ _ _ c.write_64.ensures c.write_64-2.ensures c.write_64-3.ensures
