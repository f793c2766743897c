-- Scrambled runs: bits outside the masks become anything as soon as a record has its value.
-- Assumes nothing.
use Rattle.std.specs.Prelude.{List, ℕ}
use Rattle.std.specs.Int.Bits.{bit_and, bit_or}
use Rattle.bits.specs.Masks.{without}
use Rattle.bits.specs.Words.{low_mask}
use Rattle.netlist.specs.Layout.{Design}
use Rattle.care.specs.Least.{mask_at}
use Rattle.clock.specs.Values.{unchanged}

-- "the bits of it within its width and outside its mask", for a width w and a mask m
abbrev pub outside : ℕ → ℕ → ℕ
outside w m = without (low_mask w) m

-- "are set to anything": to those of `noise`. The bits of the mask stay; a value has none beyond its width.
unfoldable pub scramble : ℕ → ℕ → ℕ → ℕ → ℕ
scramble w m noise value = bit_or (bit_and value m) (bit_and noise (outside w m))

-- How a run goes: as any run does, or with noise "chosen anew for each record and cycle": `noise j i` for record i in call j.
pub data Manner : Type 0 where
  plain : Manner
  scrambled : (ℕ → ℕ → ℕ) → Manner

-- "as soon as one has its value": what becomes of the value of record i in call j.
unfoldable pub change_in : Manner → Design → List ℕ → ℕ → ℕ → ℕ → ℕ
change_in plain d masks j = unchanged
change_in (scrambled noise) d masks j = λ i value. scramble (d.at i).width (mask_at masks i) (noise j i) value
