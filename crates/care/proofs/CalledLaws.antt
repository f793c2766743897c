-- A list without a faulty record is one that fits and is closed; and what it takes that no record below a number is faulty.
-- Assumes nothing.
use mathlib.Core.Path.{◌≡◌, refl, sym, ap, ap₂, subst}
use mathlib.Core.Bool.{Bool, true, false, cond, ◌||◌}
use mathlib.Core.Logic.{◌⊎◌, inl, inr}
use mathlib.Core.List.{List, [], ◌∷◌}
use Prim.Native.Nat.{ℕ, ◌≤◌, ◌<◌}
use native.Mathlib.Omega.{arith}
use lib.Dec.{ltb}
use lib.ListN.{length}
use borrow.Author.Tests.{lt-ltb, le-ltb}
use Rattle.endian.specs.Lists.{words_of}
use Rattle.endian.proofs.ListLaws.{length_words, words_of-word_at}
use Rattle.bits.specs.Masks.{Within, exceeds}
use Rattle.bits.specs.Words.{low_mask}
use Rattle.bits.proofs.Order.{within_trans, within_not_exceeds, not_exceeds_within}
use Rattle.netlist.specs.Layout.{Design}
use Rattle.netlist.proofs.LowestLaws.{Clear}
use Rattle.rules.specs.Sound.{Sound}
use Rattle.signal.specs.Asks.{asked, Granted}
use Rattle.signal.specs.declared.Ask.{Ask}
use Rattle.care.specs.Called.{called_for, is_faulty}
use Rattle.care.specs.Least.{Closed, mask_at, Fits}
use Rattle.care.proofs.Families.{Inside, granted_more, below_or_not}
use Rattle.care.proofs.LeastMasks.{list_inside}
use Rattle.care.proofs.Rounds.{length_round, round_above, round_granted, round_least}

-- masks grant what is asked of the records below r
abbrev pub GrantedBelow : ℕ → List Ask → (ℕ → ℕ) → Type 0
GrantedBelow r [] M = Unit {0}
GrantedBelow r (x ∷ xs) M = (x.operand < r → Within x.mask (M x.operand)) × GrantedBelow r xs M

module _ (M : ℕ → ℕ) where
  pub granted_below : (r : ℕ) (xs : List Ask) → Granted xs M → GrantedBelow r xs M
  granted_below r [] g = tt
  granted_below r (x ∷ xs) g = (λ h. g.0, granted_below r xs g.1)

  pub fewer_below : (r q : ℕ) → q ≤ r → (xs : List Ask) → GrantedBelow r xs M → GrantedBelow q xs M
  fewer_below r q l [] g = tt
  fewer_below r q l (x ∷ xs) g = (λ h. g.0 (omega arith), fewer_below r q l xs g.1)

-- one family below r, and another from r on
abbrev up_to : ℕ → (ℕ → ℕ) → (ℕ → ℕ) → ℕ → ℕ
up_to r M N j = cond (ltb j r) (M j) (N j)

module _ (r : ℕ) (M N : ℕ → ℕ) where
  up_to_below : (j : ℕ) → j < r → up_to r M N j ≡ M j
  up_to_below j h = ap (λ (b : Bool). cond b (M j) (N j)) (lt-ltb j r h)

  up_to_within : (j m : ℕ) → (j < r → Within m (M j)) → Within m (N j) → Within m (up_to r M N j)
  up_to_within j m below above = go (below_or_not j r)
    where
      go : (j < r) ⊎ (r ≤ j) → Within m (up_to r M N j)
      go (inl h) = subst (Within m) (sym (up_to_below j h)) (below h)
      go (inr h) = subst (λ (b : Bool). Within m (cond b (M j) (N j))) (sym (le-ltb j r h)) above

  up_to_granted : (xs : List Ask) → GrantedBelow r xs M → Granted xs N → Granted xs (up_to r M N)
  up_to_granted [] b g = tt
  up_to_granted (x ∷ xs) b g = (up_to_within x.operand x.mask b.0 g.0, up_to_granted xs b.1 g.1)

-- where a record is not faulty, neither test finds something
neither : (a b : Bool) → (a || b) ≡ false → (a ≡ false) × (b ≡ false)
neither false b e = (refl, e)
neither true b e = cc

module _ (d : Design) (s : Sound d) (seed : ℕ → ℕ) (masks : List ℕ) where
  abbrev called : ℕ → ℕ
  called = mask_at (called_for d seed masks)

  seed_size : length (words_of seed d.count) ≡ d.count
  seed_size = length_words seed d.count

  -- what is called for at a record is its seed ..
  pub seed_called : (i : ℕ) → i < d.count → Within (seed i) (called i)
  unfolding called_for
  seed_called i h =
      subst (λ (m : ℕ). Within m (called i)) (words_of-word_at seed d.count i h)
      ((round_above d s (mask_at masks) (words_of seed d.count) seed_size d.count (omega arith)).each i)

  -- .. and all that is asked of it ..
  pub asked_called : (i : ℕ) → i < d.count → Granted (asked d.at i (mask_at masks i)) called
  unfolding called_for
  asked_called i h = round_granted d s (mask_at masks) (words_of seed d.count) seed_size d.count (omega arith) i h

  -- .. and nothing else
  pub called_least : (F : ℕ → ℕ) → ((i : ℕ) → i < d.count → Within (seed i) (F i))
      → ((i : ℕ) → i < d.count → Granted (asked d.at i (mask_at masks i)) F) → (i : ℕ) → Within (called i) (F i)
  unfolding called_for
  called_least F seeded granted i =
      (round_least d s (mask_at masks) (words_of seed d.count) seed_size F
      (list_inside d.count (words_of seed d.count) F seed_size
      (λ j h. subst (λ (m : ℕ). Within m (F j)) (sym (words_of-word_at seed d.count j h)) (seeded j h)))
      granted d.count (omega arith)).each i

  called_size : length (called_for d seed masks) ≡ d.count
  unfolding called_for
  called_size = length_round d s (mask_at masks) (words_of seed d.count) seed_size d.count (omega arith)

  -- a mask that has a bit outside its width, or lacks a called-for bit, is faulty
  pub wide_faulty : (i : ℕ) → exceeds (mask_at masks i) (low_mask (d.at i).width) ≡ true → is_faulty d seed masks i ≡ true
  unfolding is_faulty
  wide_faulty i e = go (exceeds (called i) (mask_at masks i))
    where
      go : (b : Bool) → (b || exceeds (mask_at masks i) (low_mask (d.at i).width)) ≡ true
      go true = refl
      go false = e

  pub lacking_faulty : (i m : ℕ) → Within m (called i) → exceeds m (mask_at masks i) ≡ true → is_faulty d seed masks i ≡ true
  unfolding is_faulty
  lacking_faulty i m w e = go (exceeds (called i) (mask_at masks i)) refl
    where
      go : (b : Bool) → exceeds (called i) (mask_at masks i) ≡ b → (b || exceeds (mask_at masks i) (low_mask (d.at i).width)) ≡ true
      go true q = refl
      go false q =
          absurd (let f = within_not_exceeds (within_trans w (not_exceeds_within (called i) (mask_at masks i) q)) in let z : ◌≡◌ {A = ℕ} 0 1 = cc in omega arith)

  -- what it takes that no record below r is faulty
  module _ (r : ℕ) (low : r ≤ d.count) (narrow : (i : ℕ) → i < r → Within (mask_at masks i) (low_mask (d.at i).width))
      (seeded : (i : ℕ) → i < r → Within (seed i) (mask_at masks i))
      (granted : (i : ℕ) → i < d.count → GrantedBelow r (asked d.at i (mask_at masks i)) (mask_at masks)) where
    called_below : (i : ℕ) → i < r → Within (called i) (mask_at masks i)
    called_below i h =
        subst (Within (called i)) (up_to_below r (mask_at masks) called i h)
        (called_least (up_to r (mask_at masks) called)
        (λ j g. up_to_within r (mask_at masks) called j (seed j) (seeded j) (seed_called j g))
        (λ j g. up_to_granted r (mask_at masks) called (asked d.at j (mask_at masks j)) (granted j g) (asked_called j g)) i)

    pub clear_below : Clear (is_faulty d seed masks) r
    unfolding is_faulty
    clear_below i h = ap₂ ◌||◌ (within_not_exceeds (called_below i h)) (within_not_exceeds (narrow i h))

  -- #105: a list "lies within the widths and meets every care rule" just where no record is faulty
  pub closed_clear : Fits d masks → Closed d seed (mask_at masks) → Clear (is_faulty d seed masks) d.count
  closed_clear f c =
      clear_below d.count (omega arith) f.narrow c.seeded (λ i h. granted_below (mask_at masks) d.count (asked d.at i (mask_at masks i)) (c.granted i h))

  module _ (clear : Clear (is_faulty d seed masks) d.count) (size : length masks ≡ d.count) where
    clear_within : (i : ℕ) → i < d.count → Within (called i) (mask_at masks i)
    unfolding is_faulty
    clear_within i h = not_exceeds_within (called i) (mask_at masks i) (neither _ _ (clear i h)).0

    pub clear_fits : Fits d masks
    unfolding is_faulty
    clear_fits = record {
      size = size;
      narrow = λ i h. not_exceeds_within (mask_at masks i) (low_mask (d.at i).width) (neither (exceeds (called i) (mask_at masks i)) _ (clear i h)).1;
    }

    pub clear_closed : Closed d seed (mask_at masks)
    clear_closed = record {
      seeded = λ i h. within_trans (seed_called i h) (clear_within i h);
      granted = λ i h. granted_more inside (asked d.at i (mask_at masks i)) (asked_called i h);
    }
      where
        inside : Inside called (mask_at masks)
        inside = list_inside d.count (called_for d seed masks) (mask_at masks) called_size clear_within
