-- `simulator::check_words` meets its contract: no word before i is too wide.
-- Assumes nothing.
use Rattle.std.proofs.Common.{◌<◌, Err, sym, ap, ◌∙◌, arith}
use Rattle.netlist.specs.Layout.{design_of, count_of}
use Rattle.netlist.proofs.LowestLaws.{lowest_found, lowest_none}
use Rattle.clock.specs.Call.{words_answer}
use Rattle.simulator.proofs.check_words.Goals as goal

pub returns-then-is_wide : goal.returns-then-is_wide
unfolding words_answer design_of
returns-then-is_wide c =
    let loop = c.loop-i in
    let h : loop.i < count_of c.args.file.now = omega arith in
    let picked = sym c.is_wide.ensures ∙ c.if-is_wide.true in
    ap Err c.at.ensures ∙ sym (lowest_found _ _ _ _ loop.i (record { low = omega arith; picked = λ l. picked; clear = loop.invariant }) h)

pub returns : goal.returns
unfolding words_answer design_of
returns c =
    let loop = c.loop-i in
    sym (lowest_none _ _ _ _ loop.i (record { low = omega arith; picked = λ l. absurd (omega arith); clear = loop.invariant }) (omega arith))
