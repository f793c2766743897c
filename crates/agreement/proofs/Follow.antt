-- A design that follows another: the same kinds where the mask is not 0, the same widths, and keep words that agree on each mask. A design follows
-- itself, the design of the trimmed file follows that of the file, and so does one with constants in the place of blanks. Assumes nothing.
use mathlib.Core.Path.{◌≡◌, refl, sym, ap, subst}
use mathlib.Core.List.{List}
use mathlib.Core.Logic.{◌⊎◌, inl, inr}
use Prim.Native.Nat.{ℕ, ◌<◌}
use native.Mathlib.Omega.{arith}
use Rattle.std.specs.Prelude.{Ok}
use Rattle.bits.specs.Masks.{Within, Agree}
use Rattle.bits.proofs.Agreement.{agree_refl, agree_zero, agree_within, agree_by_bits}
use Rattle.bits.proofs.Digits.{bit_lt, bit_of_and}
use Rattle.netlist.specs.Kinds.{uses_of}
use Rattle.netlist.specs.Layout.{Design, design_of, role_at}
use Rattle.netlist.specs.declared.record.Kind.{Kind}
use Rattle.netlist.specs.declared.record.Record.{Record}
use Rattle.netlist.proofs.Tests.{by_test}
use Rattle.rules.specs.Check.{check_of}
use Rattle.rules.specs.Sound.{Sound, SameDesign}
use Rattle.rules.proofs.SoundLaws.{operands_below}
use Rattle.signal.specs.Results.{result_at}
use Rattle.signal.specs.Asks.{demand_of}
use Rattle.care.specs.Least.{mask_at}
use Rattle.trim.specs.Trimmed.{trimmed_by, trim_design}
use Rattle.trim.proofs.Trimmed.{holds_cut}
use Rattle.compact.specs.Survivors.{is_blank, with_blanks, blanked}
use Rattle.compact.proofs.BlankLaws.{none_here, width_stays}
use Rattle.compact.proofs.SurvivorLaws.{blank_mask, stays_kind}
use Rattle.agreement.specs.Claim.{SecondFile, same, trimmed, file_of}

pub record Follows (d e : Design) (M : ℕ → ℕ) : Type 0 where
  pub count : d.count ≡ e.count
  pub kind : (i : ℕ) → i < d.count → (M i ≡ 0) ⊎ ((d.at i).kind ≡ (e.at i).kind)
  pub width : (i : ℕ) → i < d.count → (d.at i).width ≡ (e.at i).width
  pub keep : (i : ℕ) → i < d.count → Agree (M i) (d.at i).keep (e.at i).keep

pub follows_self : (d : Design) (M : ℕ → ℕ) → Follows d d M
follows_self d M = record { count = refl; kind = λ i h. inr refl; width = λ i h. refl; keep = λ i h. agree_refl (M i) (d.at i).keep }

-- the keep word, and the keep word cut by a mask, agree on the mask
cut_agrees : (r : Record) (m : ℕ) → Agree m r.keep (demand_of r m)
cut_agrees r m =
    agree_by_bits (λ i e. let b = bit_of_and m r.keep i in let l = bit_lt r.keep i in omega arith)

pub follows_cut : (d e : Design) (masks : List ℕ) → SameDesign (trim_design d masks) e → Follows d e (mask_at masks)
unfolding trim_design
follows_cut d e masks s =
    record {
      count = s.count;
      kind = λ i h. inr (ap (λ (r : Record). r.kind) (s.each i h));
      width = λ i h. ap (λ (r : Record). r.width) (s.each i h);
      keep = λ i h. subst (λ (r : Record). Agree (mask_at masks i) (d.at i).keep r.keep) (s.each i h) (cut_agrees (d.at i) (mask_at masks i));
    }

-- a blank has mask 0, and the others are trimmed
pub follows_blanked : (d : Design) (masks : List ℕ) → Follows d (blanked d masks) (mask_at masks)
unfolding blanked trim_design with_blanks
follows_blanked d masks =
    let none = none_here (is_blank d masks) (trim_design d masks) in
    record {
      count = refl;
      kind = λ i h. by_test (is_blank d masks i) (λ b. inl (blank_mask d masks i b)) (λ b. inr (sym (stays_kind d masks i b)));
      width = λ i h. sym (width_stays (is_blank d masks) (trim_design d masks) i);
      keep = λ i h.
          by_test (is_blank d masks i) (λ b. rw (blank_mask d masks i b) (agree_zero _ _))
          (λ b. subst (λ (r : Record). Agree (mask_at masks i) (d.at i).keep r.keep) (sym (none i b)) (cut_agrees (d.at i) (mask_at masks i)));
    }

-- either file of the second run
pub follows : (which : SecondFile) (file masks : List ℕ) (n : ℕ) → check_of file ≡ Ok n
    → Follows (design_of file) (design_of (file_of which file masks)) (mask_at masks)
follows same file masks n e = follows_self (design_of file) (mask_at masks)
follows trimmed file masks n e = follows_cut (design_of file) (design_of (trimmed_by file masks)) masks (holds_cut file n e masks)

module _ (d e : Design) (M : ℕ → ℕ) (f : Follows d e M) (i : ℕ) (h : i < d.count) where
  -- words that agree where the kinds are the same agree: where they may differ, no bit is cared for
  pub followed : {m x y : ℕ} → Within m (M i) → ((d.at i).kind ≡ (e.at i).kind → Agree m x y) → Agree m x y
  followed {m} {x} {y} w agrees = go (f.kind i h)
    where
      go : (M i ≡ 0) ⊎ ((d.at i).kind ≡ (e.at i).kind) → Agree m x y
      go (inl z) = agree_within w (rw z (agree_zero x y))
      go (inr q) = agrees q

  -- what follows from equal kinds and widths
  module _ (q : (d.at i).kind ≡ (e.at i).kind) where
    pub role_same : role_at e i ≡ role_at d i
    role_same = ap (λ (k : Kind). (uses_of k).role) (sym q)

    pub result_follows : Sound d → (word : ℕ → ℕ) → result_at e.at word i ≡ result_at d.at word i
    unfolding result_at
    result_follows s word = rw (sym q, sym (f.width i h), sym (f.width (uses_of (d.at i).kind).b (operands_below d s i h).b))
