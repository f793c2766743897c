-- What ties two runs together between calls: the words at each register agree on D. It holds at first, after a start and after a cycle, and it
-- is what a cycle needs. Assumes nothing.
use mathlib.Core.Path.{◌≡◌, refl, ap, subst, ◌∙◌}
use mathlib.Core.Bool.{true}
use mathlib.Core.List.{List}
use Prim.Native.Nat.{ℕ, ◌<◌}
use native.Mathlib.Omega.{arith}
use lib.ListN.{length}
use Rattle.endian.specs.Lists.{word_at}
use Rattle.bits.specs.Masks.{Agree}
use Rattle.bits.proofs.Agreement.{agree_refl, agree_within}
use Rattle.bits.proofs.Order.{meet_left}
use Rattle.netlist.specs.Kinds.{is_held}
use Rattle.netlist.specs.Layout.{Design, role_at}
use Rattle.netlist.specs.declared.record.Role.{Role}
use Rattle.netlist.specs.declared.record.Role.TheVariants.{Input, Register, Output, Gate}
use Rattle.rules.specs.Sound.{Sound}
use Rattle.rules.proofs.SoundLaws.{register_loads}
use Rattle.signal.specs.Asks.{demand_of, Granted}
use Rattle.signal.specs.declared.Ask.{Ask}
use Rattle.signal.proofs.AskedOperands.{register_asks}
use Rattle.care.specs.Least.{Closed, mask_at}
use Rattle.clock.specs.Values.{put_word, with_inputs, next_of, next_word, start_of, start_word}
use Rattle.clock.proofs.InputLaws.{input_word}
use Rattle.clock.proofs.StateLaws.{start_word_at, next_word_at}
use Rattle.agreement.specs.Claim.{AtRegisters, AtInputs}
use Rattle.agreement.proofs.Follow.{Follows, followed, role_same}
use Rattle.agreement.proofs.OneCycle.{AllClose}

pub record Tied (d : Design) (masks board board' : List ℕ) : Type 0 where
  pub each : (i a k : ℕ) → i < d.count → role_at d i ≡ Register a k → Agree (demand_of (d.at i) (mask_at masks i)) (word_at board i) (word_at board' i)

-- "equal cared bits at each register" are more than it takes
pub tied_first : (d : Design) (masks board board' : List ℕ) → AtRegisters d masks board board' → Tied d masks board board'
tied_first d masks board board' registers =
    record { each = λ i a k h e. agree_within (meet_left (mask_at masks i) (d.at i).keep) (registers i a k h e) }

module _ (d e : Design) (masks : List ℕ) (f : Follows d e (mask_at masks)) where
  abbrev D : ℕ → ℕ
  D i = demand_of (d.at i) (mask_at masks i)

  in_second : (i : ℕ) → i < d.count → i < e.count
  in_second i h = let q = f.count in omega arith

  pub tied_start : Tied d masks (start_of d) (start_of e)
  tied_start =
      record {
        each = λ i a k h q.
            followed d e (mask_at masks) f i h (meet_left (mask_at masks i) (d.at i).keep)
            (λ same.
            let word = start_word_at d i h in
            let word' = start_word_at e i (in_second i h) ∙ ap start_word (role_same d e (mask_at masks) f i h same) in
            rw (word, word') (agree_refl (D i) (start_word (role_at d i))));
      }

  -- "a register's a has D": the values of a agree on its mask, and so on D of the register
  pub tied_next : Sound d → (seed : ℕ → ℕ) → Closed d seed (mask_at masks) → (values values' : List ℕ)
      → AllClose d (mask_at masks) values values' → Tied d masks (next_of d values) (next_of e values')
  tied_next s seed closed values values' close =
      record {
        each = λ i a k h q.
            followed d e (mask_at masks) f i h (meet_left (mask_at masks i) (d.at i).keep)
            (λ same.
            let word = next_word_at d values i h ∙ ap (next_word values) q in
            let word' = next_word_at e values' i (in_second i h) ∙ ap (next_word values') (role_same d e (mask_at masks) f i h same ∙ q) in
            let asks = subst (λ (asks : List Ask). Granted asks (mask_at masks)) (register_asks d i a k (mask_at masks i) q) (closed.granted i h) in
            rw (word, word') (agree_within asks.0 (close a (register_loads d s i h a k q).below).agree));
      }

  -- what a cycle needs: the words put at the inputs have equal cared bits, and the words at the registers are tied
  module _ (words words' : ℕ → ℕ) (board board' : List ℕ) (size : length board ≡ d.count) (size' : length board' ≡ e.count)
      (tied : Tied d masks board board') (inputs : AtInputs d masks words words') where
    by_role : (i : ℕ) → i < d.count → (role : Role) → role_at d i ≡ role → is_held role ≡ true
        → Agree (D i) (put_word role (words i) (word_at board i)) (put_word role (words' i) (word_at board' i))
    by_role i h Input q held = agree_within (meet_left (mask_at masks i) (d.at i).keep) (inputs i h q)
    by_role i h (Register a k) q held = tied.each i a k h q
    by_role i h Output q held = cc
    by_role i h Gate q held = cc

    pub held_agree : (i : ℕ) → i < d.count → is_held (role_at d i) ≡ true
        → Agree (D i) (word_at (with_inputs d words board) i) (word_at (with_inputs e words' board') i)
    held_agree i h held =
        followed d e (mask_at masks) f i h (meet_left (mask_at masks i) (d.at i).keep)
        (λ same.
        let word = input_word d words board i (omega arith) in
        let word' =
        input_word e words' board' i (let l = in_second i h in omega arith)
        ∙ ap (λ (role : Role). put_word role (words' i) (word_at board' i)) (role_same d e (mask_at masks) f i h same) in
        rw (word, word') (by_role i h (role_at d i) refl held))
