-- The operands of an accepted file's records can be read, from the file and from a list with a word for each record.
-- Assumes nothing.
use mathlib.Core.List.{List}
use Prim.Native.Nat.{ℕ, ◌<◌}
use Rattle.netlist.specs.Kinds.{uses_of}
use Rattle.netlist.specs.Layout.{design_of, count_of}
use Rattle.rules.specs.Fit.{width_rules_at}
use Rattle.rules.specs.Sound.{Acceptance}
use Rattle.rules.proofs.Acceptance.{holds_record}
use Rattle.rules.proofs.SoundLaws.{operands_below}
use Rattle.demand.specs.Held.{Readable}

module _ (file : List ℕ) (a : Acceptance file (count_of file)) (i : ℕ) (h : i < count_of file) where
  pub readable : Readable file ((design_of file).at i).kind
  unfolding design_of width_rules_at
  readable =
      let b = operands_below (design_of file) a.sound i h in
      let u = uses_of ((design_of file).at i).kind in
      record {
        first = holds_record file a u.a b.a;
        second = holds_record file a u.b b.b;
        narrow_first = (a.sound.each u.a b.a).narrow;
        narrow_second = (a.sound.each u.b b.b).narrow;
        width = ((design_of file).at i).width;
        widths = (a.sound.each i h).widths;
      }
