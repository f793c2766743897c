-- The masks of a design: the smallest family that holds a seed and all that is asked under it, and a computation of it.
-- Assumes nothing.
use Rattle.std.specs.Prelude.{◌≡◌, cond, List, [], ◌∷◌, ℕ, zero, suc, ◌<◌, eqb, length, set}
use Rattle.std.specs.Int.Bits.{bit_or}
use Rattle.endian.specs.Lists.{word_at, words_of, sum_to}
use Rattle.bits.specs.Masks.{Within}
use Rattle.bits.specs.Words.{low_mask, count_ones}
use Rattle.netlist.specs.Kinds.{is_output}
use Rattle.netlist.specs.Layout.{Design, role_at}
use Rattle.netlist.specs.declared.record.Role.{Role}
use Rattle.signal.specs.Asks.{asked, Granted}
use Rattle.signal.specs.declared.Ask.{Ask}

-- "M(x) is the mask of signal x": a family gives each signal a mask. A family M is closed if it has every bit of a seed, which is what it has
-- to begin with, and every bit that a record asks for under M.
pub record Closed (d : Design) (seed M : ℕ → ℕ) : Type 0 where
  pub seeded : (i : ℕ) → i < d.count → Within (seed i) (M i)
  pub granted : (i : ℕ) → i < d.count → Granted (asked d.at i (M i)) M

-- "M is the smallest family of masks, bit by bit, for which" this holds.
pub record Least (d : Design) (seed M : ℕ → ℕ) : Type 0 where
  pub closed : Closed d seed M
  pub least : (F : ℕ → ℕ) → Closed d seed F → (i : ℕ) → i < d.count → Within (M i) (F i)

-- "an output has all w bits"
abbrev pub seed_of : Role → ℕ → ℕ
seed_of role w = cond (is_output role) (low_mask w) 0

abbrev pub output_seed : Design → ℕ → ℕ
output_seed d i = seed_of (role_at d i) (d.at i).width

-- A list of masks as a family: the mask of record i is word i.
abbrev pub mask_at : List ℕ → ℕ → ℕ
mask_at masks i = word_at masks i

-- A list has a mask for each record, within its width.
pub record Fits (d : Design) (masks : List ℕ) : Type 0 where
  pub size : length masks ≡ d.count
  pub narrow : (i : ℕ) → i < d.count → Within (mask_at masks i) (low_mask (d.at i).width)

-- "A signal read by several takes the union": masks with one ask joined to them, and with several.
abbrev pub joined : List ℕ → Ask → List ℕ
joined masks x = set masks x.operand (bit_or (mask_at masks x.operand) x.mask)

unfoldable pub grant : List Ask → List ℕ → List ℕ
grant [] masks = masks
grant (x ∷ xs) masks = grant xs (joined masks x)

-- Masks, with all that the records below i ask under a family M.
unfoldable pub round_to : Design → (ℕ → ℕ) → List ℕ → ℕ → List ℕ
round_to d M masks zero = masks
round_to d M masks (suc i) = grant (asked d.at i (M i)) (round_to d M masks i)

-- "the sum of all widths, and the count of ones over all masks"
abbrev pub width_sum : Design → ℕ
width_sum d = sum_to (λ i. (d.at i).width) d.count

abbrev pub ones_sum : Design → List ℕ → ℕ
ones_sum d masks = sum_to (λ i. count_ones (mask_at masks i)) d.count

-- "again and again until" a whole round "adds no bit", in at most so many turns.
unfoldable pub settle : Design → ℕ → List ℕ → List ℕ
settle d zero masks = masks
settle d (suc turns) masks =
    let next = round_to d (mask_at masks) masks d.count in
    cond (eqb (ones_sum d next) (ones_sum d masks)) masks (settle d turns next)

-- The smallest closed family above the masks of a list. Each turn adds a bit, so there are no more turns than bits.
unfoldable pub least_above : Design → List ℕ → List ℕ
least_above d masks = settle d (width_sum d) masks

-- The smallest masks above a seed, and the masks of a design.
abbrev pub masks_from : Design → (ℕ → ℕ) → List ℕ
masks_from d seed = least_above d (words_of seed d.count)

unfoldable pub masks_of : Design → List ℕ
masks_of d = masks_from d (output_seed d)
