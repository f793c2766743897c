-- What the contracts of `start` and `cycle` promise, in the paper's words: what an accepted call writes, and that a refused one writes nothing.
-- Assumes nothing.
use mathlib.Core.Path.{◌≡◌, refl, sym, ap, subst, ◌∙◌}
use mathlib.Core.Bool.{Bool, true, false, cond}
use mathlib.Core.List.{List}
use Prim.Native.Nat.{ℕ, ◌^◌, ◌<◌}
use lib.ListN.{length, set}
use Rattle.std.specs.Prelude.{Result, Ok, Err, is_ok}
use Rattle.endian.specs.Lists.{word_at}
use Rattle.netlist.specs.declared.refusal.Refused.{Refused}
use Rattle.netlist.specs.Layout.{design_of, count_of, role_at}
use Rattle.netlist.specs.Refusals.{leaves, refused}
use Rattle.netlist.specs.declared.refusal.Refusal.TheVariants.{BadList}
use Rattle.rules.specs.Sound.{Sound}
use Rattle.rules.proofs.Acceptance.{accepted}
use Rattle.clock.specs.Call.{answer_after, is_wide, start_call, cycle_with, cycle_call}
use Rattle.clock.specs.Values.{unchanged, value_at, values_of, plain_values, plain_next, next_word, next_of, start_word, start_of}
use Rattle.clock.proofs.CallLaws.{both_fit}
use Rattle.clock.proofs.StateLaws.{start_word_at, next_word_at, start_passes, next_passes}
use Rattle.clock.proofs.ValueLaws.{value_defined, values_narrow}

-- ---- what it takes to be accepted

-- the file was accepted, the lists have room for its records, and nothing else was refused
pub record Passed (c : Result ℕ Refused) (fit : ℕ → Bool) (rest : Result (Unit {0}) Refused) : Type 0 where
  pub count : ℕ
  pub checked : c ≡ Ok count
  pub room : fit count ≡ true
  pub clear : rest ≡ Ok tt

pub passed : (c : Result ℕ Refused) (fit : ℕ → Bool) (rest : Result (Unit {0}) Refused) → answer_after c fit rest ≡ Ok tt → Passed c fit rest
unfolding answer_after
passed (Err r) fit rest e = cc
passed (Ok n) fit rest e = go (fit n) refl e
  where
    go : (b : Bool) → fit n ≡ b → cond b rest (Err (refused BadList 0)) ≡ Ok tt → Passed (Ok n) fit rest
    go true q e = record { count = n; checked = refl; room = q; clear = e }
    go false q e = cc

-- ---- start

module _ (file board : List ℕ) (e : (start_call file board).answer ≡ Ok tt) where
  pub start_left : (start_call file board).board ≡ start_of (design_of file)
  unfolding start_call
  start_left = ap (λ (c : Result (Unit {0}) Refused). leaves (is_ok c) (start_of (design_of file)) board) e

  -- "Start writes the reset states at the registers and 0 elsewhere in a board list."
  pub started : (i : ℕ) → i < count_of file → word_at (start_call file board).board i ≡ start_word (role_at (design_of file) i)
  unfolding design_of
  started i h = ap (λ (l : List ℕ). word_at l i) start_left ∙ start_word_at (design_of file) i h

  -- and a cycle can go on from there: 12 applies to no record
  pub start_goes_on : (i : ℕ) → i < count_of file → is_wide (design_of file) (start_call file board).board i ≡ false
  unfolding start_call design_of
  start_goes_on i h =
      ap (λ (l : List ℕ). is_wide (design_of file) l i) start_left ∙ start_passes (design_of file) (accepted file _ (passed _ _ _ e).checked).sound i h

-- "No lent word or byte changes."
pub start_refused : (file board : List ℕ) (r : Refused) → (start_call file board).answer ≡ Err r → (start_call file board).board ≡ board
unfolding start_call
start_refused file board r e = ap (λ (c : Result (Unit {0}) Refused). leaves (is_ok c) (start_of (design_of file)) board) e

-- ---- cycle

-- what an accepted cycle leaves, also where values are changed
module _ (change : ℕ → ℕ → ℕ) (file board next : List ℕ) (e : (cycle_with change file board next).answer ≡ Ok tt) where
  pub values_left : (cycle_with change file board next).board ≡ values_of (design_of file) change board
  unfolding cycle_with
  values_left = ap (λ (c : Result (Unit {0}) Refused). leaves (is_ok c) (values_of (design_of file) change board) board) e

  pub next_left : (cycle_with change file board next).next ≡ next_of (design_of file) (values_of (design_of file) change board)
  unfolding cycle_with
  next_left = ap (λ (c : Result (Unit {0}) Refused). leaves (is_ok c) (next_of (design_of file) (values_of (design_of file) change board)) next) e

  pub cycle_sound : Sound (design_of file)
  unfolding cycle_with
  cycle_sound = (accepted file _ (passed _ _ _ e).checked).sound

  pub board_length : length board ≡ count_of file
  unfolding cycle_with
  board_length = let p = passed _ _ _ e in (both_fit _ _ _ p.room).0 ∙ (accepted file _ p.checked).count

  -- the next cycle can go on from there, also where values are changed within their widths: 12 applies to no record of the next list
  pub goes_on : ((j v : ℕ) → v < 2 ^ ((design_of file).at j).width → change j v < 2 ^ ((design_of file).at j).width) → (i : ℕ) → i < count_of file
      → is_wide (design_of file) (cycle_with change file board next).next i ≡ false
  unfolding design_of
  goes_on narrow i h =
      ap (λ (l : List ℕ). is_wide (design_of file) l i) next_left
      ∙ next_passes (design_of file) cycle_sound i h (values_of (design_of file) change board)
      (λ j g. values_narrow (design_of file) cycle_sound change board board_length j g (narrow j))

module _ (file board next : List ℕ) (e : (cycle_call file board next).answer ≡ Ok tt) where
  abbrev left : (cycle_call file board next).board ≡ plain_values (design_of file) board
  left = values_left unchanged file board next e

  abbrev size : length board ≡ count_of file
  size = board_length unchanged file board next e

  sound : Sound (design_of file)
  sound = cycle_sound unchanged file board next e

  -- "word i is the value of signal i": what its record gives from the values of its operands, and at an input or register from the word
  -- that the board list held there
  pub clocked : (i : ℕ) → i < count_of file
      → word_at (cycle_call file board next).board i ≡ value_at (design_of file) (set (cycle_call file board next).board i (word_at board i)) i
  unfolding design_of
  clocked i h =
      subst (λ (l : List ℕ). word_at l i ≡ value_at (design_of file) (set l i (word_at board i)) i) (sym left)
      (value_defined (design_of file) sound unchanged board size i h)

  -- "at each register, the value of its a, and 0 elsewhere"
  pub loaded : (i : ℕ) → i < count_of file → word_at (cycle_call file board next).next i ≡ next_word (cycle_call file board next).board (role_at (design_of file) i)
  unfolding design_of
  loaded i h =
      ap (λ (l : List ℕ). word_at l i) (next_left unchanged file board next e)
      ∙ next_word_at (design_of file) (plain_values (design_of file) board) i h
      ∙ ap (λ (l : List ℕ). next_word l (role_at (design_of file) i)) (sym left)

-- "No lent word or byte changes."
pub cycle_refused : (file board next : List ℕ) (r : Refused) → (cycle_call file board next).answer ≡ Err r
    → ((cycle_call file board next).board ≡ board) × ((cycle_call file board next).next ≡ next)
unfolding cycle_with
cycle_refused file board next r e = (
  ap (λ (c : Result (Unit {0}) Refused). leaves (is_ok c) (plain_values (design_of file) board) board) e,
  ap (λ (c : Result (Unit {0}) Refused). leaves (is_ok c) (plain_next (design_of file) board) next) e,
)
