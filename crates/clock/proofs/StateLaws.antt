-- Laws of states: the words of the lists after a start and after a cycle, and that a cycle can go on from them.
-- Assumes nothing.
use mathlib.Core.Path.{◌≡◌, refl, sym, ap, subst}
use mathlib.Core.Bool.{false, not}
use mathlib.Core.List.{List}
use Prim.Native.Nat.{ℕ, ◌^◌, ◌<◌}
use lib.Pow.{pow_pos}
use borrow.Author.Tests.{lt-ltb}
use Rattle.endian.specs.Lists.{word_at}
use Rattle.endian.proofs.ListLaws.{words_of-word_at}
use Rattle.netlist.specs.Layout.{Design, role_at}
use Rattle.netlist.specs.declared.record.Role.{Role}
use Rattle.netlist.specs.declared.record.Role.TheVariants.{Input, Register, Output, Gate}
use Rattle.rules.specs.Sound.{Sound}
use Rattle.rules.proofs.SoundLaws.{register_loads}
use Rattle.clock.specs.Call.{word_is_wide, is_wide}
use Rattle.clock.specs.Values.{next_word, next_of, start_word, start_of}

-- ---- the words

pub start_word_at : (d : Design) (i : ℕ) → i < d.count → word_at (start_of d) i ≡ start_word (role_at d i)
unfolding start_of
start_word_at d i h = words_of-word_at (λ j. start_word (role_at d j)) d.count i h

pub next_word_at : (d : Design) (values : List ℕ) (i : ℕ) → i < d.count → word_at (next_of d values) i ≡ next_word values (role_at d i)
unfolding next_of
next_word_at d values i h = words_of-word_at (λ j. next_word values (role_at d j)) d.count i h

-- ---- no word is too wide for the cycle that follows

not_wide : (role : Role) (word w : ℕ) → word < 2 ^ w → word_is_wide role word w ≡ false
not_wide Input word w h = ap not (lt-ltb word (2 ^ w) h)
not_wide (Register a k) word w h = ap not (lt-ltb word (2 ^ w) h)
not_wide Output word w h = refl
not_wide Gate word w h = refl

module _ (d : Design) (s : Sound d) (i : ℕ) (h : i < d.count) where
  next_narrow : (values : List ℕ) → ((j : ℕ) → j < d.count → word_at values j < 2 ^ (d.at j).width) → (role : Role) → role_at d i ≡ role
      → next_word values role < 2 ^ (d.at i).width
  next_narrow values narrow Input e = pow_pos (d.at i).width
  next_narrow values narrow (Register a k) e =
      let l = register_loads d s i h a k e in
      subst (λ (w : ℕ). word_at values a < 2 ^ w) l.width (narrow a l.below)
  next_narrow values narrow Output e = pow_pos (d.at i).width
  next_narrow values narrow Gate e = pow_pos (d.at i).width

  -- 12 applies to no record of the next list, where each value lies within its width
  pub next_passes : (values : List ℕ) → ((j : ℕ) → j < d.count → word_at values j < 2 ^ (d.at j).width) → is_wide d (next_of d values) i ≡ false
  next_passes values narrow =
      not_wide (role_at d i) _ (d.at i).width
      (subst (λ (word : ℕ). word < 2 ^ (d.at i).width) (sym (next_word_at d values i h)) (next_narrow values narrow (role_at d i) refl))

  start_narrow : (role : Role) → role_at d i ≡ role → start_word role < 2 ^ (d.at i).width
  start_narrow Input e = pow_pos (d.at i).width
  start_narrow (Register a k) e = (register_loads d s i h a k e).reset
  start_narrow Output e = pow_pos (d.at i).width
  start_narrow Gate e = pow_pos (d.at i).width

  -- and to none of the board list after a start
  pub start_passes : is_wide d (start_of d) i ≡ false
  start_passes =
      not_wide (role_at d i) _ (d.at i).width
      (subst (λ (word : ℕ). word < 2 ^ (d.at i).width) (sym (start_word_at d i h)) (start_narrow (role_at d i) refl))
