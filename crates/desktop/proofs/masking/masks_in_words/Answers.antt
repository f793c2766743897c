-- `desktop::masking::masks_in_words` meets its contract: the operation's call on the list of words is the call on the buffer.
-- Assumes nothing.
use mathlib.Core.Path.{sym, ap, ap₂, subst, ◌∙◌}
use mathlib.Core.List.{List}
use Prim.Native.Nat.{ℕ}
use Rattle.std.specs.Prelude.{Result, is_ok}
use Rattle.endian.specs.Bytes.{word_bytes}
use Rattle.netlist.specs.declared.refusal.Refused.{Refused}
use Rattle.netlist.specs.Refusals.{leaves}
use Rattle.care.specs.declared.Tally.{Tally}
use Rattle.care.specs.Call.{MasksCall}
use Rattle.answer.specs.Answer.{tallied_answer}
use Rattle.answer.specs.Fits.{TalliedFits}
use Rattle.answer.proofs.Fitting.{masks_fits}
use Rattle.desktop.proofs.WordLaws.{masks_match}
use Rattle.desktop.proofs.masking.masks_in_words.Goals as goal

pub write_accepted-requires : goal.write_accepted-requires
write_accepted-requires c = let args = c.args in
    let masks = c.masks-answer.ensures in
    rw (masks.answer, masks.list) (masks_match args.file.now args.buffer.now args.words.now c.requires).room

pub number-requires : goal.number-requires
number-requires c = subst TalliedFits (sym c.masks-answer.ensures.answer) (masks_fits _ _)

pub returns : goal.returns
returns c = let args = c.args in
    let masks = c.masks-answer.ensures in
    let buffer = args.buffer.now in
    let same = (masks_match args.file.now buffer args.words.now c.requires).same in
    record {
      answer = c.number.ensures ∙ ap tallied_answer (masks.answer ∙ sym (ap (λ (m : MasksCall). m.answer) same));
      masks =
          c.write_accepted.ensures
          ∙ ap₂ (λ (a : Result Tally Refused) (l : List ℕ). leaves (is_ok a) (word_bytes l) buffer) masks.answer masks.list
          ∙ sym (ap (λ (m : MasksCall). m.list) same);
    }
