-- `desktop::trimming::trim_in_words` meets its contract: the operation's call on the list of words is the call on the mask list.
-- Assumes nothing.
use mathlib.Core.Path.{sym, ap, ap₂, subst, ◌∙◌}
use mathlib.Core.List.{List}
use Prim.Native.Nat.{ℕ}
use Rattle.std.specs.Prelude.{Result, is_ok}
use Rattle.endian.specs.Bytes.{word_bytes}
use Rattle.netlist.specs.declared.refusal.Refused.{Refused}
use Rattle.netlist.specs.Refusals.{leaves}
use Rattle.care.specs.declared.Tally.{Tally}
use Rattle.trim.specs.Call.{TrimCall}
use Rattle.answer.specs.Answer.{tallied_answer}
use Rattle.answer.specs.Fits.{TalliedFits}
use Rattle.answer.proofs.Fitting.{trim_fits}
use Rattle.desktop.proofs.WordLaws.{same_trim, trim_room}
use Rattle.desktop.proofs.trimming.trim_in_words.Goals as goal

pub write_accepted-requires : goal.write_accepted-requires
write_accepted-requires c = let args = c.args in
    let trim = c.trim-answer.ensures in
    rw (trim.answer, trim.list) (trim_room args.file.now args.masks.now args.words.now c.requires args.destination.now)

pub number-requires : goal.number-requires
number-requires c = subst TalliedFits (sym c.trim-answer.ensures.answer) (trim_fits _ _ _)

pub returns : goal.returns
returns c = let args = c.args in
    let trim = c.trim-answer.ensures in
    let masks = args.masks.now in
    let same = same_trim args.file.now masks args.words.now c.requires args.destination.now in
    record {
      answer = c.number.ensures ∙ ap tallied_answer (trim.answer ∙ sym (ap (λ (t : TrimCall). t.answer) same));
      masks =
          c.write_accepted.ensures
          ∙ ap₂ (λ (a : Result Tally Refused) (l : List ℕ). leaves (is_ok a) (word_bytes l) masks) trim.answer trim.list
          ∙ sym (ap (λ (t : TrimCall). t.list) same);
      destination = trim.destination ∙ sym (ap (λ (t : TrimCall). t.destination) same);
    }
