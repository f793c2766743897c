-- What is noted while asks are joined: by one that changes nothing, that changes a mask, and by several one after the other.
-- Assumes nothing.
use mathlib.Core.Path.{◌≡◌, refl, sym, ap, subst, ◌∙◌}
use mathlib.Core.Bool.{Bool, true, false, true≢false, ◌||◌}
use mathlib.Core.Logic.{◌≢◌, ◌⊎◌, inl, inr}
use mathlib.Core.List.{List, [], ◌∷◌}
use Prim.Native.Nat.{ℕ, ◌≤◌, ◌<◌}
use native.Mathlib.Omega.{arith}
use lib.Bits.{bit_or}
use lib.Dec.{leb, ltb}
use lib.ListN.{length}
use borrow.Author.Tests.{leb-false, ltb-false}
use Rattle.bits.specs.Masks.{Within}
use Rattle.bits.proofs.Order.{within_antisym}
use Rattle.signal.specs.declared.Ask.{Ask}
use Rattle.signal.specs.AskLists.{Named}
use Rattle.care.specs.Least.{mask_at, joined, grant}
use Rattle.care.proofs.Families.{Inside, same_or_not, joined_same, joined_other, length_grant, grant_above}
use Rattle.sweep.specs.Marks.{mark_at, Put}
use Rattle.sweep.specs.Sweep.{Passed, Noted, Joins}

-- the code's test whether a record has been passed; one that finds more records passed will do as well
pub not_passed : {from to : ℕ} (low i j : ℕ) → ltb j from || leb to j ≡ false → low ≤ from → to ≤ i → Passed low i j → ⊥
not_passed {from} {to} low i j e m n = go (ltb j from) refl e
  where
    go : (b : Bool) → ltb j from ≡ b → b || leb to j ≡ false → Passed low i j → ⊥
    go true q e p = true≢false e
    go false q e (inl h) = let l = ltb-false j from q in omega arith
    go false q e (inr h) = let l = leb-false to j e in omega arith

-- nothing changes
pub noted_same : (low i : ℕ) (masks marks : List ℕ) → Noted low i masks masks marks marks
noted_same low i masks marks = record { kept = λ j e. refl; gained = λ j p n. absurd (n refl) }

-- an ask changes the mask of its operand
module _ (low i : ℕ) (masks marks : List ℕ) (x : Ask) (h : x.operand < length masks) where
  -- the operand is marked
  module _ (noted : List ℕ) (n : mask_at masks x.operand ≢ bit_or (mask_at masks x.operand) x.mask) (p : Put marks x.operand 1 noted) where
    pub noted_marked : Noted low i masks (joined masks x) marks noted
    noted_marked = record { kept = λ j e. kept j e (same_or_not j x.operand); gained = λ j q m. gained j m (same_or_not j x.operand) }
      where
        kept : (j : ℕ) → mask_at (joined masks x) j ≡ mask_at masks j → (j ≡ x.operand) ⊎ (j ≢ x.operand) → mark_at noted j ≡ mark_at marks j
        kept j e (inl q) = absurd (n (ap (mask_at masks) (sym q) ∙ sym e ∙ ap (mask_at (joined masks x)) q ∙ joined_same masks x h))
        kept j e (inr m) = p.others j m

        gained : (j : ℕ) → mask_at (joined masks x) j ≢ mask_at masks j → (j ≡ x.operand) ⊎ (j ≢ x.operand) → mark_at noted j ≡ 1
        gained j m (inl q) = ap (mark_at noted) q ∙ p.here
        gained j m (inr o) = absurd (m (joined_other masks x h j o))

  -- the visit still comes to it
  pub noted_coming : (Passed low i x.operand → ⊥) → Noted low i masks (joined masks x) marks marks
  noted_coming c = record { kept = λ j e. refl; gained = λ j q m. absurd (m (joined_other masks x h j (λ e. c (subst (Passed low i) e q)))) }

-- the same where the visit stands higher up, so that fewer records have been passed
pub noted_higher : {low k i : ℕ} {before after marks noted : List ℕ} → Noted low k before after marks noted → k ≤ i → Noted low i before after marks noted
noted_higher {low} {k} {i} n l = record { kept = n.kept; gained = λ j p m. n.gained j (earlier j p) m }
  where
    earlier : (j : ℕ) → Passed low i j → Passed low k j
    earlier j (inl h) = inl h
    earlier j (inr h) = inr (omega arith)

-- two one after the other
noted_both : {low i : ℕ} {before between after marks first second : List ℕ} → Inside (mask_at before) (mask_at between) → Inside (mask_at between) (mask_at after)
    → Noted low i before between marks first → Noted low i between after first second → Noted low i before after marks second
noted_both {low} {i} {before} {between} {after} {marks} {first} {second} l g a b =
    record {
      kept = λ j e.
          let m = within_antisym (subst (λ (n : ℕ). Within (mask_at between j) n) e (g.each j)) (l.each j) in
          b.kept j (e ∙ sym m) ∙ a.kept j m;
      gained = λ j p n. gained j p n (same_or_not (mask_at after j) (mask_at between j));
    }
  where
    gained : (j : ℕ) → Passed low i j → mask_at after j ≢ mask_at before j → (mask_at after j ≡ mask_at between j) ⊎ (mask_at after j ≢ mask_at between j)
        → mark_at second j ≡ 1
    gained j p n (inl e) = b.kept j e ∙ a.gained j p (λ q. n (e ∙ q))
    gained j p n (inr c) = b.gained j p c

-- asks that are joined one after the other
pub joins_none : (low i : ℕ) (masks marks : List ℕ) → Joins low i [] masks masks marks marks
unfolding grant
joins_none low i masks marks = record { granted = refl; notes = noted_same low i masks marks }

joins_length : {low i : ℕ} {xs : List Ask} {before after marks noted : List ℕ} → Named (length before) xs → Joins low i xs before after marks noted
    → length after ≡ length before
joins_length {xs = xs} {before = before} n j = ap length j.granted ∙ length_grant xs before n

joins_more : {low i : ℕ} {x : Ask} {xs : List Ask} {before between after marks first second : List ℕ} → Named (length before) (x ∷ xs)
    → Joins low i (x ∷ []) before between marks first → Joins low i xs between after first second → Joins low i (x ∷ xs) before after marks second
unfolding grant
joins_more {xs = xs} {before = before} n a b = record {
  granted = b.granted ∙ ap (grant xs) a.granted;
  notes = noted_both (grows (n.0, tt) a) (grows (subst (λ (m : ℕ). Named m xs) (sym (joins_length (n.0, tt) a)) n.1) b) a.notes b.notes;
}
  where
    grows : {low i : ℕ} {xs : List Ask} {before after marks noted : List ℕ} → Named (length before) xs → Joins low i xs before after marks noted
        → Inside (mask_at before) (mask_at after)
    grows {xs = xs} {before = before} n j = subst (λ (l : List ℕ). Inside (mask_at before) (mask_at l)) (sym j.granted) (grant_above xs before n)

pub joins_two : {low i : ℕ} {x y : Ask} {before one two marks first second : List ℕ} → Named (length before) (x ∷ y ∷ [])
    → Joins low i (x ∷ []) before one marks first → Joins low i (y ∷ []) one two first second → Joins low i (x ∷ y ∷ []) before two marks second
joins_two n a b = joins_more n a b

pub joins_three : {low i : ℕ} {x y z : Ask} {before one two three marks first second third : List ℕ} → Named (length before) (x ∷ y ∷ z ∷ [])
    → Joins low i (x ∷ []) before one marks first → Joins low i (y ∷ []) one two first second → Joins low i (z ∷ []) two three second third
    → Joins low i (x ∷ y ∷ z ∷ []) before three marks third
joins_three {y = y} {z = z} n a b c =
    joins_more n a (joins_more (subst (λ (m : ℕ). Named m (y ∷ z ∷ [])) (sym (joins_length (n.0, tt) a)) n.1) b c)
