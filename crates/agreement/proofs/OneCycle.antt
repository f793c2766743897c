-- Two cycles, one of a design and one of a design that follows it, with values changed outside the masks: where the words at inputs and
-- registers agree on D, all values agree on the masks. Assumes nothing.
use mathlib.Core.Path.{◌≡◌, sym, subst, ◌∙◌}
use mathlib.Core.Bool.{true}
use mathlib.Core.List.{List, [], ◌∷◌}
use Prim.Native.Nat.{ℕ, zero, suc, ◌^◌, ◌<◌}
use native.Mathlib.Nat.{not-suc-le-zero}
use native.Mathlib.Omega.{arith}
use lib.ListN.{length, set}
use lib.Seq.{get_or-set_same, get_or-set_other}
use Rattle.endian.specs.Lists.{word_at}
use Rattle.bits.specs.Masks.{Agree}
use Rattle.bits.proofs.Agreement.{agree_refl, agree_sym, agree_trans, agree_within, agree_keep, agree_and}
use Rattle.bits.proofs.Order.{within_refl}
use Rattle.netlist.specs.Kinds.{is_held}
use Rattle.netlist.specs.Layout.{Design, role_at}
use Rattle.rules.specs.Sound.{Sound}
use Rattle.signal.specs.Results.{result_at}
use Rattle.signal.specs.Asks.{demand_of, asked, Granted}
use Rattle.signal.specs.AskLists.{Named}
use Rattle.signal.specs.declared.Ask.{Ask}
use Rattle.signal.proofs.AskedOperands.{asked_below}
use Rattle.signal.proofs.ConstantLaws.{Fixed, constant_fixed}
use Rattle.signal.proofs.ResultLaws.{AllMet, result_agree}
use Rattle.care.specs.Least.{Closed, mask_at}
use Rattle.clock.specs.Values.{unchanged, value_at, values_of}
use Rattle.clock.proofs.ValueLaws.{length_values, value_defined, values_narrow}
use Rattle.agreement.proofs.Follow.{Follows, followed, result_follows}
use Rattle.agreement.proofs.ScrambleLaws.{Gentle}

-- Two values of signal i agree on its mask and lie within its width, and in the first run a constant has its value.
pub record Close (d : Design) (M : ℕ → ℕ) (values values' : List ℕ) (i : ℕ) : Type 0 where
  pub agree : Agree (M i) (word_at values i) (word_at values' i)
  pub first : word_at values i < 2 ^ (d.at i).width
  pub second : word_at values' i < 2 ^ (d.at i).width
  pub fixed : Fixed (d.at i) (word_at values i)

-- The same of every signal.
abbrev pub AllClose : Design → (ℕ → ℕ) → List ℕ → List ℕ → Type 0
AllClose d M values values' = (i : ℕ) → i < d.count → Close d M values values' i

-- where the operands' values are close and the masks grant what is asked, two runs have in common what is asked
all_met : (d : Design) (M : ℕ → ℕ) (i : ℕ) (x x' : List ℕ) → ((j : ℕ) → j < i → Close d M x x' j) → (asks : List Ask) → Named i asks → Granted asks M
    → AllMet d.at (word_at x) (word_at x') asks
all_met d M i x x' below [] n g = tt
all_met d M i x x' below (a ∷ asks) n g =
    let c = below a.operand n.0 in (
      record { agree = agree_within g.0 c.agree; first = c.first; second = c.second; fixed = c.fixed },
      all_met d M i x x' below asks n.1 g.1,
    )

module _ (d e : Design) (sd : Sound d) (se : Sound e) (masks : List ℕ) (seed : ℕ → ℕ) (closed : Closed d seed (mask_at masks))
    (f : Follows d e (mask_at masks)) (change : ℕ → ℕ → ℕ) (g : Gentle d masks change) (board board' : List ℕ)
    (size : length board ≡ d.count) (size' : length board' ≡ e.count)
    (held : (i : ℕ) → i < d.count → is_held (role_at d i) ≡ true → Agree (demand_of (d.at i) (mask_at masks i)) (word_at board i) (word_at board' i)) where
  abbrev values : List ℕ
  values = values_of d unchanged board

  abbrev values' : List ℕ
  values' = values_of e change board'

  module _ (i : ℕ) (h : i < d.count) (below : (j : ℕ) → j < i → Close d (mask_at masks) values values' j) where
    abbrev m : ℕ
    m = mask_at masks i

    in_second : i < e.count
    in_second = let q = f.count in omega arith

    -- the board lists as record i finds them: the values, and its own word
    abbrev x : List ℕ
    x = set values i (word_at board i)

    abbrev x' : List ℕ
    x' = set values' i (word_at board' i)

    own : word_at x i ≡ word_at board i
    own = get_or-set_same values i (word_at board i) 0 (let l = length_values d unchanged board in omega arith)

    own' : word_at x' i ≡ word_at board' i
    own' = get_or-set_same values' i (word_at board' i) 0 (let l = length_values e change board' in let q = in_second in omega arith)

    found : (j : ℕ) → j < i → Close d (mask_at masks) x x' j
    found j l =
        let other = get_or-set_other values i j (word_at board i) 0 (λ q. omega arith) in
        let other' = get_or-set_other values' i j (word_at board' i) 0 (λ q. omega arith) in
        let c = below j l in
        record {
          agree = rw (other, other') c.agree;
          first = rw other c.first;
          second = rw other' c.second;
          fixed = λ q. other ∙ c.fixed q;
        }

    results : Agree (demand_of (d.at i) m) (result_at d.at (word_at x) i) (result_at d.at (word_at x') i)
    results =
        result_agree d sd i h (word_at x) (word_at x') m (λ q. rw (own, own') (held i h q))
        (λ q. all_met d (mask_at masks) i x x' found (asked d.at i m) (asked_below d sd i h q m) (closed.granted i h))

    -- with the keep words, which agree on the mask
    kept : Agree m (value_at d x i) (value_at e x' i)
    kept =
        agree_trans (agree_keep (d.at i).keep results)
        (followed d e (mask_at masks) f i h (within_refl m)
        (λ q. rw (result_follows d e (mask_at masks) f i h q sd (word_at x')) (agree_and (agree_refl m (result_at d.at (word_at x') i)) (f.keep i h))))

    next : Close d (mask_at masks) values values' i
    next =
        let defined = value_defined d sd unchanged board size i h in
        let defined' = value_defined e se change board' size' i in_second in
        record {
          agree = rw (defined, defined') (agree_trans kept (agree_sym (g.cared i (value_at e x' i))));
          first = values_narrow d sd unchanged board size i h (λ v l. l);
          second =
              subst (λ (w : ℕ). word_at values' i < 2 ^ w) (sym (f.width i h))
              (values_narrow e se change board' size' i in_second (λ v l. narrow v l));
          fixed = λ q. defined ∙ constant_fixed d.at (word_at x) i q;
        }
      where
        narrow : (v : ℕ) → v < 2 ^ (e.at i).width → change i v < 2 ^ (e.at i).width
        narrow v l =
            subst (λ (w : ℕ). change i v < 2 ^ w) (f.width i h) (g.narrow i v (subst (λ (w : ℕ). v < 2 ^ w) (sym (f.width i h)) l))

  closes : (k i : ℕ) → i < k → i < d.count → Close d (mask_at masks) values values' i
  closes zero i l h = absurd (not-suc-le-zero l)
  closes (suc k) i l h = next i h (λ j g. closes k j (omega arith) (omega arith))

  pub cycle_close : AllClose d (mask_at masks) values values'
  cycle_close i h = closes (suc i) i (omega arith) h
